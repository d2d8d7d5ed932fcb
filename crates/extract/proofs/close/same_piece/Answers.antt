-- Pieces that are found the same have the same words.
use mathlib.Core.Path.{◌≡◌, sym, ◌∙◌}
use mathlib.Core.List.{List}
use Prim.Native.Nat.{ℕ, ◌+◌, ◌-◌, ◌<◌}
use native.Mathlib.Omega.{arith}
use lib.ListN.{get_or, take, drop, length-drop}
use lib.Seq.{length-take-le, get_or-take, get_or-drop}
use Rattle.rules.proofs.Tests.{same_at}
use Rattle.rules.proofs.Overs.{all_at}
use Rattle.extract.proofs.close.same_piece.Goals as goal

-- word i of a piece
word : (w : List ℕ) (at n i : ℕ) → i < n → get_or (take n (drop at w)) i 0 ≡ get_or w (at + i) 0
word w at n i h = get_or-take n (drop at w) i 0 h ∙ get_or-drop at w i 0

pub same_words-requires : goal.same_words-requires
same_words-requires c =
    let w = c.args.words.now in
    let a = c.args in
    length-take-le (a.other + 64 - a.other) (drop a.other w) (omega (arith, length-drop a.other w))
    ∙ sym (length-take-le (a.one + 64 - a.one) (drop a.one w) (omega (arith, length-drop a.one w)) ∙ omega arith)

pub returns : goal.returns
returns c e i h =
    let a = c.args in
    let w = a.words.now in
    let long = length-take-le (a.one + 64 - a.one) (drop a.one w) (omega (arith, length-drop a.one w)) in
    let equal = same_at (all_at _ (sym c.same_words.ensures ∙ e) (omega (arith, long))) in
    sym (word w a.one (a.one + 64 - a.one) i (omega arith)) ∙ equal ∙ word w a.other (a.other + 64 - a.other) i (omega arith)
