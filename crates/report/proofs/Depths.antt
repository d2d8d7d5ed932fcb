-- The greatest depth that fits, by a division.
-- Assumes nothing.
use Prim.Native.Nat.{ℕ, zero, suc, ◌-◌, ◌*◌, ◌/◌, ◌≤◌, ◌<◌}
use mathlib.Core.Path.{◌≡◌, sym, ap, subst, ◌∙◌}
use mathlib.Core.Bool.{Bool, false, So}
use mathlib.Core.Logic.{by_cases}
use native.Mathlib.Decide.{dec_le}
use native.Mathlib.Omega.{arith}
use native.Mathlib.Nat.{mul-le-mul_right, div-mul-le_self, div-lt_iff_lt-mul}
use Rattle.rules.specs.Test.{fails}
use Rattle.rules.specs.Layer.{stride, word_count}
use Rattle.rules.specs.declared.Shape.{Shape}
use Rattle.rules.proofs.Tests.{choose_held, choose_failed, below_of, below_not, is_fails}
use Rattle.rules.proofs.Layers.{labels_in}
use Rattle.rules.proofs.Layouts.{count_stride, count_zero}
use Rattle.graph.specs.Verdict.{Verdict}
use Rattle.graph.specs.Limits.{max_depth}
use Rattle.graph.specs.Checks.{memory_rule}
use Rattle.report.specs.Depth.{greatest_with, fits, depth_for}

-- where the test holds at d and at nothing above it, d is the greatest
pub greatest_is : (n : ℕ) (f : ℕ → Bool) (d : ℕ) → d ≤ n → So (f d) → ((e : ℕ) → d < e → e ≤ n → f e ≡ false) → d ≡ greatest_with n f
unfolding greatest_with
greatest_is zero f d h t above = omega arith
greatest_is (suc n) f d h t above = by_cases (dec_le d n)
    (λ q. greatest_is n f d q t (λ e l m. above e l (omega arith))
    ∙ sym (choose_failed (f (suc n)) (suc n) (is_fails (above (suc n) (omega arith) (omega arith)))))
    (λ q. let e : d ≡ suc n = omega arith in
    e ∙ sym (choose_held (greatest_with n f) (subst (λ (x : ℕ). So (f x)) e t)))

pub some_stride : (S : Shape) → 1 ≤ S.props → 1 ≤ stride S
unfolding stride
some_stride S h = omega (arith, labels_in S.props)

module _ (S : Shape) (room most : ℕ) (some : 1 ≤ S.props) (zero_fits : word_count S 0 ≤ room)
    (is : most ≡ (room - word_count S 0) / stride S) where
  upto : (k : ℕ) → k ≤ most → word_count S k ≤ room
  upto k h =
      omega (
        arith,
        count_stride S k,
        count_zero S,
        mul-le-mul_right (stride S) h,
        subst (λ (m : ℕ). m * stride S ≤ room - word_count S 0) (sym is) (div-mul-le_self _ _),
      )

  above : (k : ℕ) → most < k → room < word_count S k
  above k h = omega (arith, count_stride S k, count_zero S, (div-lt_iff_lt-mul (some_stride S some)).0 (subst (λ (m : ℕ). m < k) is h))

  fits_upto : (k : ℕ) → k ≤ most → So (fits S room k)
  unfolding fits
  fits_upto k h = is_fails (below_not (upto k h))

  fits_not : (k : ℕ) → most < k → fits S room k ≡ false
  unfolding fits fails
  fits_not k h = ap fails (below_of (above k h))

  -- the depth, where it is in range and where it would be more
  pub depth_is : most ≤ max_depth → (most ≡ depth_for S room) × (most ≤ max_depth) × (word_count S most ≤ room)
  unfolding depth_for
  depth_is h = (greatest_is max_depth (fits S room) most h (fits_upto most (omega arith)) (λ k l m. fits_not k l), h, upto most (omega arith))

  pub depth_most : max_depth < most → (max_depth ≡ depth_for S room) × (max_depth ≤ max_depth) × (word_count S max_depth ≤ room)
  unfolding depth_for
  depth_most h = (
    greatest_is max_depth (fits S room) max_depth (omega arith) (fits_upto max_depth (omega arith)) (λ k l m. absurd (omega arith)),
    omega arith,
    upto max_depth (omega arith),
  )

-- the check of the words of depth 0, as the code has their number
pub zero_words : (room wanted : ℕ) (S T : Shape) (r : Verdict (Unit {0})) → wanted ≡ word_count S 0 → S ≡ T
    → memory_rule wanted room ≡ r → memory_rule (word_count T 0) room ≡ r
zero_words room wanted S T r e q m = ap (λ (x : ℕ). memory_rule x room) (sym (e ∙ ap (λ (s : Shape). word_count s 0) q)) ∙ m
