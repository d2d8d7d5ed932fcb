-- Words whose differences are joined: nothing differs exactly when each word is the same as the other.
-- Assumes nothing.
use mathlib.Core.Path.{◌≡◌, refl, sym, ap, ap₂, ◌∙◌}
use Prim.Native.Nat.{ℕ, ◌+◌, ◌≤◌, ◌<◌}
use native.Mathlib.Numerals.{add-one}
use native.Mathlib.Omega.{arith}
use lib.Bits.{bit_or, bit_xor, and_le_l, and_le_r, or_add_and, xor_add_and, xor_self}
use Rattle.rules.specs.Test.{◌and◌, same}
use Rattle.rules.specs.Over.{all_below}
use Rattle.rules.proofs.Tests.{and_of, and_left, and_right, test_eq, same_of, same_at}

pub xor_same : (a b : ℕ) → bit_xor a b ≡ 0 → a ≡ b
xor_same a b e = omega (arith, xor_add_and a b, and_le_l a b, and_le_r a b)

differ_same : (a b : ℕ) → same (bit_xor a b) 0 ≡ same a b
differ_same a b = test_eq (λ t. same_of (xor_same a b (same_at t)))
    (λ t. same_of (ap (bit_xor a) (sym (same_at t)) ∙ xor_self a))

join_same : (a b : ℕ) → same (bit_or a b) 0 ≡ (same a 0 and same b 0)
join_same a b = test_eq (λ t.
    let e = same_at t in
    let f = or_add_and a b in
    and_of (same_of (omega (arith, and_le_l a b, and_le_r a b))) (same_of (omega (arith, and_le_l a b, and_le_r a b))))
    (λ t. same_of (ap₂ bit_or (same_at (and_left _ t)) (same_at (and_right _ t))))

-- of n words, no difference among the first i: each is the same as the other
pub record Compared (one other : ℕ → ℕ) (n i differ : ℕ) : Type 0 where
  pub within : i ≤ n
  pub is : same differ 0 ≡ all_below i (λ k. same (one k) (other k))

pub compared_none : {one other : ℕ → ℕ} {n : ℕ} → Compared one other n 0 0
unfolding all_below
compared_none = record { within = omega arith; is = same_of refl }

pub compared_more : {one other : ℕ → ℕ} {n i differ : ℕ} → Compared one other n i differ → i < n
    → Compared one other n (i + 1) (bit_or differ (bit_xor (one i) (other i)))
unfolding all_below
compared_more {one} {other} {n} {i} {differ} a l = record {
  within = omega arith;
  is = join_same differ (bit_xor (one i) (other i)) ∙ ap₂ ◌and◌ a.is (differ_same (one i) (other i))
      ∙ ap (λ (x : ℕ). all_below x (λ k. same (one k) (other k))) (sym (add-one i));
}

pub compared_done : {one other : ℕ → ℕ} {n i differ : ℕ} → Compared one other n i differ → n ≤ i → same differ 0 ≡ all_below n (λ k. same (one k) (other k))
compared_done {one} {other} {n} {i} a h = let e : i ≡ n = omega (arith, a.within) in a.is ∙ ap (λ (x : ℕ). all_below x (λ k. same (one k) (other k))) e
