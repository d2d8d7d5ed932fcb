-- What is together: of two elements of a layer the states for which both are present and not mutex, of an element with itself its label (`freeIn`).
-- A layer by what is together in it, and what is together in the next proposition layer.
use Rattle.std.specs.Prelude.{ℕ, ◌<◌, ◌≡◌, List}
use Rattle.std.proofs.Math.Bool.{So}
use Rattle.rules.specs.Word.{bit, common, without}
use Rattle.rules.specs.Over.{keep, join_over}
use Rattle.rules.specs.Domain.{Domain}
use Rattle.rules.specs.Layer.{layer_of, free_in}

-- the layer of n elements that are together as t says
unfoldable pub layer_by : ℕ → (ℕ → ℕ → ℕ) → List ℕ
layer_by n t = layer_of n (λ i. t i i) (λ i j. without (common (t i i) (t j j)) (t i j))

-- t may say it of n elements, for the states of `all`: either way round the same, and only of states in which the elements are
pub record Consistent (n all : ℕ) (t : ℕ → ℕ → ℕ) : Type 0 where
  pub turn : (i j : ℕ) → i < n → j < n → t i j ≡ t j i
  pub part : (s i j : ℕ) → i < n → j < n → So (bit s (t i j)) → So (bit s (t i i))
  pub inside : (s i : ℕ) → i < n → So (bit s (t i i)) → So (bit s all)

-- the states in which v, of the action layer a, is together with a vertex that adds p
unfoldable pub beside : Domain → List ℕ → ℕ → ℕ → ℕ
beside D a v p = join_over D.vertices (λ w. keep (bit p (D.adds w)) (free_in D.vertices a v w))

-- those in which a vertex that adds p and one that adds q are together
unfoldable pub next_together : Domain → List ℕ → ℕ → ℕ → ℕ
next_together D a p q = join_over D.vertices (λ v. keep (bit p (D.adds v)) (beside D a v q))
