-- The lowest member of a set lies below all others.
-- Assumes nothing.
use mathlib.Core.Path.{◌≡◌, refl, sym, ap, subst, ◌∙◌}
use mathlib.Core.Bool.{false, So}
use Prim.Native.Nat.{ℕ, zero, suc, ◌/◌, ◌%◌, ◌^◌, ◌≤◌, ◌<◌, zero-le}
use native.Mathlib.Nat.{div-one}
use native.Mathlib.Numerals.{one-add}
use native.Mathlib.Omega.{arith}
use lib.Count.{count_trailing_zeros, under}
use Rattle.rules.specs.Test.{fails, same}
use Rattle.rules.specs.Word.{bit, without, single, first}
use Rattle.rules.proofs.Tests.{and_of, and_left, and_right, fails_of, fails_at, is_fails, test_eq, same_of, same_at, below_not, below_fails}
use Rattle.rules.proofs.Words.{bit_without, bit_single, bit_first, bit_shift, ext_all, lowest_has}

-- the lowest digit of a word that has bit 0, and the bits of its half
low_digit : (w : ℕ) → So (bit 0 w) → w % 2 ≡ 1
unfolding bit
low_digit w t = sym (ap (λ (x : ℕ). x % 2) (div-one w)) ∙ same_at t

half_bit : (i w : ℕ) → So (bit (suc i) w) → So (bit i (w / 2))
half_bit i w t = bit_shift w 1 i ∙ ap (λ (k : ℕ). bit k w) (one-add i) ∙ t

under_le : (d t i : ℕ) → (d ≡ 0 → suc t ≤ i) → under d t ≤ i
under_le zero t i f = f refl
under_le (suc d) t i f = zero-le

pub lowest_least : (k w i : ℕ) → w < 2 ^ k → So (bit i w) → count_trailing_zeros k w ≤ i
unfolding count_trailing_zeros
lowest_least zero w i h t = zero-le
lowest_least (suc k) w zero h t = under_le (w % 2) (count_trailing_zeros k (w / 2)) zero (λ e. absurd (omega (arith, low_digit w t)))
lowest_least (suc k) w (suc i) h t =
    under_le (w % 2) (count_trailing_zeros k (w / 2)) (suc i) (λ e. omega (arith, lowest_least k (w / 2) i (omega arith) (half_bit i w t)))

-- without it, only higher ones are left
pub others_above : (k w i : ℕ) → w < 2 ^ k → So (bit i (without w (single (count_trailing_zeros k w)))) → count_trailing_zeros k w < i
others_above k w i h t =
    let u = sym (bit_without i w (single (count_trailing_zeros k w))) ∙ t in
    let other : count_trailing_zeros k w ≡ i → ⊥ =
    λ e. fails_at (and_right _ u) (bit_single i (count_trailing_zeros k w) ∙ same_of (sym e)) in
    omega (arith, lowest_least k w i h (and_left _ u))

-- below it there is none
lowest_digit : (w : ℕ) → w % 2 ≡ 0 → bit 0 w ≡ false
unfolding bit same
lowest_digit w e = ap (λ (x : ℕ). same (x % 2) 1) (div-one w) ∙ ap (λ (x : ℕ). same x 1) e

pub no_lower : (k w i : ℕ) → i < count_trailing_zeros k w → bit i w ≡ false
unfolding count_trailing_zeros
no_lower zero w i h = absurd (omega arith)
no_lower (suc k) w i h = go (w % 2) refl (λ j l. no_lower k (w / 2) j l) i h
  where
    go : (d : ℕ) → w % 2 ≡ d → ((j : ℕ) → j < count_trailing_zeros k (w / 2) → bit j (w / 2) ≡ false) → (i : ℕ)
        → i < under d (count_trailing_zeros k (w / 2)) → bit i w ≡ false
    go zero e f zero l = lowest_digit w e
    go zero e f (suc i) l = ap (λ (x : ℕ). bit x w) (sym (one-add i)) ∙ sym (bit_shift w 1 i) ∙ f i (omega arith)
    go (suc d) e f i l = absurd (omega arith)

-- ---- what is left of a set while its lowest members are taken: those from one of them on

pub record Upper (set left : ℕ) : Type 0 where
  pub inside : (i : ℕ) → So (bit i left) → So (bit i set)
  pub up : (i j : ℕ) → i ≤ j → So (bit i left) → So (bit j set) → So (bit j left)

pub upper_none : {set : ℕ} → Upper set set
upper_none = record { inside = λ i t. t; up = λ i j l t u. u }

pub upper_more : (k : ℕ) {set left left' : ℕ} → Upper set left → left < 2 ^ k → left' ≡ without left (single (count_trailing_zeros k left)) → Upper set left'
upper_more k {set} {left} m h e = subst (Upper set) (sym e) (record {
  inside = λ i t. m.inside i (among i t);
  up = λ i j l t u. bit_without j left (single low) ∙ and_of (m.up i j l (among i t) u)
      (fails_of (λ v. let q : j ≡ low = same_at (sym (bit_single j low) ∙ v) in omega (arith, others_above k left i h t)));
})
  where
    low : ℕ
    low = count_trailing_zeros k left

    among : (i : ℕ) → So (bit i (without left (single low))) → So (bit i left)
    among i t = and_left _ (sym (bit_without i left (single low)) ∙ t)

-- from the lowest that is left
pub upper_is : (k : ℕ) {set left : ℕ} → Upper set left → left < 2 ^ k → 0 < left → left ≡ without set (first (count_trailing_zeros k left))
upper_is k {set} {left} m h some = ext_all (λ i. test_eq
    (λ t. bit_without i set (first low) ∙ and_of (m.inside i t) (ap fails (bit_first i low) ∙ is_fails (below_not (lowest_least k left i h t))))
    (λ t. let u = sym (bit_without i set (first low)) ∙ t in
    m.up low i (below_fails (ap fails (sym (bit_first i low)) ∙ and_right _ u)) (lowest_has k h (λ e. omega arith)) (and_left _ u)))
  where
    low : ℕ
    low = count_trailing_zeros k left
