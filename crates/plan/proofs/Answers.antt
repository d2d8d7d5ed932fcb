-- What the plan's rule comes to, stage by stage: the answer and the memory together.
-- Assumes nothing.
use mathlib.Core.Path.{◌≡◌, refl, sym, ap, subst, ◌∙◌}
use mathlib.Core.List.{List, [], ◌++◌}
use mathlib.Core.Bool.{Bool, true, false}
use Prim.Native.Nat.{ℕ, suc, ◌≤◌, ◌<◌}
use native.Mathlib.Nat.{zero-add}
use native.Mathlib.Omega.{arith}
use lib.ListN.{length, drop}
use Rattle.rules.specs.Test.{below, choose}
use Rattle.rules.specs.Word.{bit}
use Rattle.rules.specs.Over.{keep}
use Rattle.rules.specs.Lists.{list_over}
use Rattle.rules.specs.Domain.{Actions, domain, shape_of}
use Rattle.rules.specs.Level.{Level, level, never, not_by_depth, first_met, first_rest, level_by, level_of}
use Rattle.rules.specs.Plan.{Planned, planned, stuck, descend, plan_at, plan_of, plan_count}
use Rattle.rules.specs.declared.Shape.{Shape}
use Rattle.rules.proofs.Tests.{below_of, below_not}
use Rattle.std.specs.Prelude.{Result, IsErrAnd}
use Rattle.graph.specs.Verdict.{Verdict, accepted, refused, turned_away, and_then, laid}
use Rattle.graph.specs.declared.refusal.Refusal.{Refusal}
use Rattle.graph.proofs.Verdicts.{then_refused, handed_on}
use Rattle.plan.specs.declared.Planned.{Planned as Answer}
use Rattle.words.specs.Memory.{put_at}
use Rattle.graph.specs.Checks.{Room}
use Rattle.plan.specs.Plan.{Made, plan_verdict, made, planned_verdict}

-- turned away: the number and the place, and no word changes
pub plan_refused : (v : Verdict (List ℕ)) (number place : ℕ) (w : List ℕ) → v ≡ refused number place → (refused number place ≡ made v) × (w ≡ laid v w)
unfolding laid made
plan_refused v number place w e = (sym (ap made e), sym (ap (λ (x : Verdict (List ℕ)). laid x w) e))

-- a chain of checks that ends at one that is refused, and what a plan answers then: `?` hands on that refusal
pub stops : {X Y : Type 0} (v : Verdict X) (next : X → Verdict Y) (why : Refusal) → turned_away why ≡ v → turned_away why ≡ and_then v next
stops v next why e = sym (then_refused v next _ _ (sym e))

pub handed_back : (v : Verdict (List ℕ)) (w : List ℕ) (r : Result Answer Refusal) (why : Refusal) → IsErrAnd r (λ x. x ≡ why) → turned_away why ≡ v
    → (plan_verdict r ≡ made v) × (w ≡ laid v w)
handed_back v w r why h e = let (answer, memory) = plan_refused v _ _ w (sym e) in (handed_on _ r why h ∙ answer, memory)

abbrev pub given : ℕ → ℕ → Made
given l k = record { level = l; count = k }

-- accepted: the words stand at the front
pub plan_given : (v : Verdict (List ℕ)) (plan w w' : List ℕ) (k : ℕ) → v ≡ accepted plan → k ≡ plan_count plan → w' ≡ put_at 0 plan w
    → (accepted (given (length plan) k) ≡ made v) × (w' ≡ laid v w)
unfolding laid made put_at
plan_given v plan w w' k e c q = (
  ap (λ (x : ℕ). accepted (given (length plan) x)) c ∙ sym (ap made e),
  q ∙ ap (λ (x : ℕ). plan ++ drop x w) (zero-add (length plan)) ∙ sym (ap (λ (x : Verdict (List ℕ)). laid x w) e),
)

-- the answer and the memory by a rule that is equal
pub equal_rule_lem : {r : Verdict Made} {w' : List ℕ} (w : List ℕ) (v v' : Verdict (List ℕ)) → v ≡ v' → (r ≡ made v) × (w' ≡ laid v w) → (r ≡ made v')
    × (w' ≡ laid v' w)
equal_rule_lem {r} {w'} w v v' e h = (h.0 ∙ ap made e, h.1 ∙ ap (λ (x : Verdict (List ℕ)). laid x w) e)

-- the two ways in which a descent ends
module _ (depth : ℕ) (d : Planned) where
  pub ends_stuck : (t : ℕ) → stuck t ≡ d → planned_verdict depth d ≡ refused 14 t
  unfolding planned_verdict
  ends_stuck t e = sym (ap (planned_verdict depth) e)

  pub ends_whole : (plan : List ℕ) → planned plan ≡ d → planned_verdict depth d ≡ accepted plan
  unfolding planned_verdict
  ends_whole plan e = sym (ap (planned_verdict depth) e)

-- the level first
module _ (A : Actions) (depth set goal : ℕ) (words : List ℕ) (t : ℕ) (met : t ≡ first_met (shape_of (domain A)) depth set goal words) where
  level_by_lem : (b : Bool) → below t (suc depth) ≡ b
      → level_of (shape_of (domain A)) depth set goal words
      ≡ choose b (level t) (choose (below (first_rest (shape_of (domain A)) depth words) depth) never not_by_depth)
  unfolding level_by level_of
  level_by_lem b e =
      ap (λ (x : ℕ). choose (below x (suc depth)) (level x) (choose (below (first_rest (shape_of (domain A)) depth words) depth) never not_by_depth)) (sym met)
      ∙ ap (λ (x : Bool). choose x (level t) (choose (below (first_rest (shape_of (domain A)) depth words) depth) never not_by_depth)) e

  none : (b : Bool) → planned_verdict depth (plan_at A set goal words (choose b never not_by_depth)) ≡ refused 13 depth
  unfolding planned_verdict plan_at choose
  none true = refl
  none false = refl

  pub no_level_lem : depth < t → planned_verdict depth (plan_of A depth set goal words) ≡ refused 13 depth
  unfolding plan_of choose
  no_level_lem h =
      ap (λ (l : Level). planned_verdict depth (plan_at A set goal words l)) (level_by_lem false (below_not (omega arith)))
      ∙ none (below (first_rest (shape_of (domain A)) depth words) depth)

  pub at_level : t ≤ depth → descend A words t (list_over A.props (λ p. keep (bit p goal) set)) [] ≡ plan_of A depth set goal words
  unfolding plan_of plan_at choose
  at_level h = sym (ap (plan_at A set goal words) (level_by_lem true (below_of (omega arith))))

-- the room of a list as long as the depth
pub room_deep : {S : Shape} {d : ℕ} {w : List ℕ} (k : ℕ) → k ≡ d → Room S d w → Room S k w
room_deep {S} {d} {w} k e r = subst (λ (x : ℕ). Room S x w) (sym e) r
