-- The piece is read before it is written.
use mathlib.Core.Path.{◌≡◌, sym, ap, ◌∙◌}
use mathlib.Core.List.{List, ◌++◌, append_assoc}
use Prim.Native.Nat.{ℕ, ◌+◌, ◌-◌, ◌≤◌}
use native.Mathlib.Omega.{arith}
use lib.ListN.{length, get_or, take, drop, length-drop}
use lib.Seq.{paste, ext_get_or, get_or-take, get_or-drop, length-take-le}
use Rattle.rules.specs.Lists.{list_over}
use Rattle.rules.proofs.Layers.{length_list_over, get_d_list_over}
use Rattle.words.specs.Memory.{put_at}
use Rattle.extract.specs.Moves.{piece_words}
use Rattle.extract.proofs.close.copy_piece.Goals as goal

-- so many words from a place on
part_is : (n from : ℕ) (w : List ℕ) → from + n ≤ length w → take n (drop from w) ≡ list_over n (λ i. get_or w (from + i) 0)
part_is n from w h =
    let long : length (take n (drop from w)) ≡ n = length-take-le n (drop from w) (omega (arith, length-drop from w)) in
    ext_get_or 0 _ _ (long ∙ sym (length_list_over n (λ i. get_or w (from + i) 0)))
    (λ i l. get_or-take n (drop from w) i 0 (omega (arith, long)) ∙ get_or-drop from w i 0 ∙ sym (get_d_list_over (λ i. get_or w (from + i) 0) (omega (arith, long))))

pub returns : goal.returns
unfolding put_at
returns c =
    let a = c.args in
    let w = a.out.now in
    let piece : List ℕ = list_over piece_words (λ i. get_or w (a.from + i) 0) in
    let size : a.from + 64 - a.from ≡ piece_words = omega arith in
    c.copy_within.ensures.after
    ∙ ap (λ (n : ℕ). paste w a.to (drop a.from w) n) size
    ∙ append_assoc (take a.to w) (take piece_words (drop a.from w)) (drop (a.to + piece_words) w)
    ∙ ap (λ (l : List ℕ). take a.to w ++ (l ++ drop (a.to + piece_words) w)) (part_is piece_words a.from w (omega arith))
    ∙ ap (λ (n : ℕ). take a.to w ++ (piece ++ drop (a.to + n) w)) (sym (length_list_over piece_words (λ i. get_or w (a.from + i) 0)))
