-- What the search for the rest answers, and what is known once causes 6 to 9 are passed.
-- Assumes nothing.
use mathlib.Core.Path.{◌≡◌, sym, ap, subst, ◌∙◌}
use mathlib.Core.List.{List}
use Prim.Native.Nat.{ℕ, suc, ◌≤◌, ◌<◌}
use denote.Bor.{Bor}
use lib.ListN.{length}
use Rattle.rules.specs.Test.{choose}
use Rattle.rules.specs.Level.{first_met, first_rest, rests_at, none, rest_of}
use Rattle.rules.specs.declared.Shape.{Shape}
use Rattle.rules.proofs.Tests.{below_of, below_not}
use Rattle.rules.proofs.Firsts.{first_le}
use Rattle.graph.specs.Verdict.{Verdict, accepted}
use Rattle.graph.specs.Format.{shape_in}
use Rattle.graph.specs.File.{Ranged}
use Rattle.graph.specs.Checks.{Room, graph_rule}
use Rattle.graph.specs.declared.format.Counts.{Counts}
use Rattle.graph.proofs.Ladder.{graph_means, small_of}

-- no layer above k + 1 is the first that meets a goal
pub met_le : (S : Shape) (k set : ℕ) (words : List ℕ) (goal : ℕ) → first_met S k set goal words ≤ suc k
unfolding first_met
met_le S k set words goal = first_le _ _

module _ (S : Shape) (k : ℕ) (words : List ℕ) (t : ℕ) (rest : t ≡ first_rest S k words) where
  pub rest_at : t < k → rests_at t ≡ rest_of S k words
  unfolding rest_of choose
  rest_at h = simp (sym rest, below_of h)

  pub rest_none : k ≤ t → none ≡ rest_of S k words
  unfolding rest_of choose
  rest_none h = simp (sym rest, below_not h)

-- ---- causes 6 to 9 being passed

-- the code may read the layers
pub room_of : (c : Counts) (depth : ℕ) (asked : Verdict (Unit {0})) (words : List ℕ) (S : Shape) → Ranged c → S ≡ shape_in c
    → graph_rule c depth asked (length words) ≡ accepted tt → Room S depth words
room_of c depth asked words S r e g =
    let p = graph_means c depth asked (length words) g in
    subst (λ (x : Shape). Room x depth words) (sym e) (record { small = small_of c r; deep = p.deep; fits = p.fits })

-- what is said of the layers lent is said of what the call was given
pub of_lent : {X : Type 0} (f : Shape → ℕ → List ℕ → X) {S T : Shape} {k d : ℕ} {v w : Bor (List ℕ)} → (v ≡ w) × (S ≡ T) × (k ≡ d) → f S k v.now ≡ f T d w.now
of_lent f e = λ i. f (e.1 i) (e.2 i) (e.0 i).now

-- what was found of the set and the goal is their rule
pub graph_asked : (c : Counts) (depth have : ℕ) {found asked r : Verdict (Unit {0})} → found ≡ asked → graph_rule c depth found have ≡ r
    → graph_rule c depth asked have ≡ r
graph_asked c depth have e q = ap (λ (v : Verdict (Unit {0})). graph_rule c depth v have) (sym e) ∙ q
