-- A loop that sums what is told only where the tables are alike, with room for the sum.
-- Assumes nothing.
use mathlib.Core.Path.{◌≡◌, ap, ap₂, ◌∙◌}
use Prim.Native.Nat.{ℕ, suc, ◌+◌, ◌-◌, ◌*◌, ◌≤◌, ◌<◌, zero-le}
use native.Mathlib.Nat.{suc-mul}
use native.Mathlib.Omega.{arith}
use Rattle.rules.specs.Over.{sum_over}
use Rattle.rules.proofs.Scans.{sum_eq}

-- at index i, from `from` to `end`: the sum of f so far where H holds, and each part at most m
pub record Summing (H : Type 0) (f : ℕ → ℕ) (from end m i sum : ℕ) : Type 0 where
  pub low : from ≤ i
  pub within : i ≤ end
  pub is : H → sum ≡ sum_over (i - from) (λ k. f (from + k))
  pub few : sum ≤ (i - from) * m

pub summing_none : {H : Type 0} {f : ℕ → ℕ} {from end m : ℕ} → from ≤ end → Summing H f from end m from 0
unfolding sum_over
summing_none {f = f} {from = from} h = record {
  low = omega arith;
  within = h;
  is = λ a. let e : 0 ≡ from - from = omega arith in ap (λ (k : ℕ). sum_over k (λ k. f (from + k))) e;
  few = zero-le;
}

module _ {H : Type 0} {f : ℕ → ℕ} {from end m i sum : ℕ} (t : Summing H f from end m i sum) where
  pub summing_more : {x : ℕ} → i < end → (H → x ≡ f i) → x ≤ m → Summing H f from end m (i + 1) (sum + x)
  unfolding sum_over
  summing_more {x} h e l =
      let at : i ≡ from + (i - from) = omega (arith, t.low) in
      let next : suc (i - from) ≡ i + 1 - from = omega (arith, t.low) in record {
        low = omega (arith, t.low);
        within = omega arith;
        is = λ a. ap₂ ◌+◌ (t.is a) (e a ∙ ap f at) ∙ ap (λ (k : ℕ). sum_over k (λ k. f (from + k))) next;
        few = omega (arith, t.few, suc-mul (i - from) m, ap (λ (k : ℕ). k * m) next);
      }

  pub summing_done : {n : ℕ} → n ≡ end - from → end ≤ i → H → sum ≡ sum_over n (λ k. f (from + k))
  summing_done {n} e h a = let q : i - from ≡ n = omega (arith, t.within) in t.is a ∙ ap (λ (k : ℕ). sum_over k (λ k. f (from + k))) q

  -- from 0 on
  pub summing_all : from ≡ 0 → end ≤ i → H → sum ≡ sum_over end f
  summing_all z h a =
      let q : end ≡ end - from = omega arith in
      summing_done q h a ∙ sum_eq end _ f (λ k l. let e : from + k ≡ k = omega arith in ap f e)
