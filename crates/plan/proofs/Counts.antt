-- Words joined that are all empty, the marks of the words that are left, and a word stored before those that are there.
-- Assumes nothing.
use mathlib.Core.Path.{◌≡◌, refl, sym, ap, ap₂, ◌∙◌}
use mathlib.Core.Bool.{Bool}
use mathlib.Core.List.{List, [], ◌∷◌}
use Prim.Native.Nat.{ℕ, zero, suc, ◌+◌, ◌≤◌, ◌<◌}
use native.Mathlib.Nat.{add-zero, add_assoc}
use native.Mathlib.Numerals.{add-one}
use native.Mathlib.Omega.{arith}
use lib.Bits.{bit_or, and_le_l, and_le_r, or_add_and}
use lib.Count.{ones}
use lib.ListN.{length, get_or, set, take, drop, drop_of_length-le}
use lib.Seq.{drop-cons, drop_at, set_split, length-take-le}
use Rattle.rules.specs.Test.{◌and◌, same}
use Rattle.rules.specs.Word.{union}
use Rattle.rules.specs.Over.{join_over, all_below}
use Rattle.rules.specs.Plan.{plan_count}
use Rattle.rules.proofs.Tests.{test_eq, same_of, same_at, and_of, and_left, and_right}

-- a union is empty just when both words are
both_empty : (a b : ℕ) → same (union a b) 0 ≡ (same a 0 and same b 0)
both_empty a b = test_eq (λ t.
    let e = same_at t in
    let f = or_add_and a b in
    and_of (same_of (omega (arith, and_le_l a b, and_le_r a b))) (same_of (omega (arith, and_le_l a b, and_le_r a b))))
    (λ t. same_of (ap₂ bit_or (same_at (and_left _ t)) (same_at (and_right _ t))))

pub all_empty : (n : ℕ) (f : ℕ → ℕ) → same (join_over n f) 0 ≡ all_below n (λ i. same (f i) 0)
unfolding join_over all_below
all_empty zero f = same_of refl
all_empty (suc n) f = both_empty (join_over n f) (f n) ∙ ap (λ (b : Bool). b and same (f n) 0) (all_empty n f)

-- a word stored before those that are there
pub stored : (w : List ℕ) (u t m : ℕ) → t ≡ suc u → u < length w → drop u (set w u m) ≡ m ∷ drop t w
stored w u t m e h =
    ap (drop u) (set_split w u m h) ∙ drop_at (take u w) (m ∷ drop (suc u) w) u (length-take-le u w (omega arith))
    ∙ ap (λ (x : ℕ). m ∷ drop x w) (sym e)

-- behind the last word there is none
pub none_left : (l : List ℕ) → [] ≡ drop (length l) l
none_left [] = refl
none_left (x ∷ l) = none_left l

-- the marks counted so far, and those of the words that are left
module _ (ws : List ℕ) (e n i : ℕ) (h : e ≡ n + plan_count (drop i ws)) where
  pub count_more : i < length ws → e ≡ (n + ones (get_or ws i 0)) + plan_count (drop (i + 1) ws)
  unfolding plan_count
  count_more l =
      h ∙ ap (λ (k : List ℕ). n + plan_count k) (drop-cons ws i 0 l) ∙ rw add-one (sym (add_assoc n (ones (get_or ws i 0)) (plan_count (drop (suc i) ws))))

  pub count_done : length ws ≤ i → e ≡ n
  unfolding plan_count
  count_done l = h ∙ ap (λ (k : List ℕ). n + plan_count k) (drop_of_length-le ws l) ∙ add-zero n
