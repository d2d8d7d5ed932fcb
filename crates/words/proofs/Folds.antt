-- A loop that folds words: what holds at its head, where it starts, one turn more, and its end.
-- Assumes nothing.
use mathlib.Core.Path.{◌≡◌, refl, ap, ◌∙◌}
use Prim.Native.Nat.{ℕ, ◌+◌, ◌≤◌, ◌<◌}
use native.Mathlib.Omega.{arith}
use Rattle.rules.specs.Word.{union}
use Rattle.rules.specs.Over.{join_over}
use Rattle.rules.proofs.Overs.{join_over_next}

-- at index i of n, a is the union of those so far
pub record Joins (f : ℕ → ℕ) (n i a : ℕ) : Type 0 where
  pub within : i ≤ n
  pub is : a ≡ join_over i f

pub join_none : {f : ℕ → ℕ} {n : ℕ} → Joins f n 0 0
unfolding join_over
join_none = record { within = omega arith; is = refl }

pub join_more : {f : ℕ → ℕ} {n i a b r : ℕ} → Joins f n i a → i < n → r ≡ union a b → b ≡ f i → Joins f n (i + 1) r
join_more {f} {n} {i} {a} j h e q = record { within = omega arith; is = e ∙ ap (union a) q ∙ join_over_next i f j.is }

pub join_done : {f : ℕ → ℕ} {n i a : ℕ} → Joins f n i a → n ≤ i → a ≡ join_over n f
join_done {f} {n} {i} j h = let e : i ≡ n = omega arith in j.is ∙ ap (λ (x : ℕ). join_over x f) e
