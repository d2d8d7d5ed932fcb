-- A plan is answered exactly when there is a level, and it leads each state of S to the goal.
-- Assumes nothing.
use mathlib.Core.Path.{◌≡◌, refl, sym, ap, subst, ◌∙◌}
use mathlib.Core.Bool.{So}
use mathlib.Core.List.{List}
use Prim.Native.Nat.{ℕ, ◌^◌, ◌≤◌, ◌<◌}
use native.Mathlib.Omega.{arith}
use lib.ListN.{length}
use Rattle.rules.specs.Word.{within}
use Rattle.rules.specs.Domain.{Sound, shape_of}
use Rattle.rules.specs.Level.{level, level_of}
use Rattle.rules.specs.Plan.{Planned, planned, stuck, no_level, plan_of, relaxed_run}
use Rattle.rules.proofs.Claims.{plan_of_lem, plan_level, never_stuck, no_level_of, no_level_at}
use Rattle.graph.specs.Verdict.{accepted, refused}
use Rattle.graph.specs.Format.{actions_of, start_of, domain_of}
use Rattle.graph.specs.File.{file_rule}
use Rattle.graph.specs.declared.format.Counts.{Counts}
use Rattle.graph.proofs.Links.{long_output}
use Rattle.graph.proofs.Ladder.{graph_of_lem}
use Rattle.graph.proofs.Verdicts.{then_accepted}
use Rattle.level.specs.Rule.{level_rule}
use Rattle.plan.specs.Plan.{planned_verdict, plan_taken, plan_rule}
use Rattle.theorems.specs.Setting.{Exactly, Found, StatesOf, GoalOf, Each}
use Rattle.theorems.proofs.Founds.{file_taken, built, asked_passes, level_answer, level_says_lem, is_state}

-- ---- what a plan's verdict says

planned_means : (depth : ℕ) (p : Planned) (plan : List ℕ) → planned_verdict depth p ≡ accepted plan → p ≡ planned plan
unfolding planned_verdict
planned_means depth (planned x) plan e = cc
planned_means depth (stuck t) plan e = cc
planned_means depth no_level plan e = cc

stuck_means : (depth : ℕ) (p : Planned) (place : ℕ) → planned_verdict depth p ≡ refused 14 place → p ≡ stuck place
unfolding planned_verdict
stuck_means depth (planned x) place e = cc
stuck_means depth (stuck t) place e = cc
stuck_means depth no_level place e = let z : ◌≡◌ {A = ℕ} 13 14 = cc in absurd (omega arith)

no_level_means : (depth : ℕ) (p : Planned) (place : ℕ) → planned_verdict depth p ≡ refused 13 place → p ≡ no_level
unfolding planned_verdict
no_level_means depth (planned x) place e = cc
no_level_means depth (stuck t) place e = let z : ◌≡◌ {A = ℕ} 14 13 = cc in absurd (omega arith)
no_level_means depth no_level place e = refl

module _ {file : List ℕ} {c : Counts} {depth : ℕ} {found : List ℕ} (f : Found file c depth found) {set goal : ℕ} (some : StatesOf c set) (over : GoalOf c goal)
    (room : ℕ) (enough : depth ≤ room) where
  -- no cause before 13 holds
  pub plan_answer : plan_rule file depth set goal found room ≡ planned_verdict depth (plan_of (actions_of file c) depth set goal found)
  unfolding plan_rule plan_taken
  plan_answer =
      then_accepted (file_rule file) _ c f.taken
      ∙ then_accepted _ _ tt (graph_of_lem c depth _ (length found) (asked_passes f set goal some over))
      ∙ then_accepted _ _ tt (sym (long_output depth room enough))

  sound : Sound (actions_of file c)
  sound = (file_taken f).sound

  goal_lt : goal < 2 ^ (actions_of file c).props
  unfolding actions_of
  goal_lt = over

  -- the plan of an answer, and the level's answer to it
  planned_at : (plan : List ℕ) → plan_rule file depth set goal found room ≡ accepted plan → plan_of (actions_of file c) depth set goal found ≡ planned plan
  planned_at plan e = planned_means depth _ plan (sym plan_answer ∙ e)

  level_at : (plan : List ℕ) → plan_rule file depth set goal found room ≡ accepted plan
      → level_of (shape_of (domain_of file c)) depth set goal found ≡ level (length plan)
  level_at plan e =
      plan_level (actions_of file c) c.states (start_of file c) depth found (built f) some.few sound goal_lt (planned_at plan e)

  pub exactly_when_level : (t : ℕ)
      → Exactly (level_rule file depth set goal found ≡ accepted (level t))
      ((plan : List ℕ) × (plan_rule file depth set goal found room ≡ accepted plan) × (length plan ≡ t))
  unfolding planned_verdict
  exactly_when_level t = (
    (λ e.
        let (plan, d, r) =
        plan_of_lem (actions_of file c) c.states (start_of file c) depth found (built f) some.few sound goal_lt
        (level_says_lem f set goal some over _ e) in
        (plan, plan_answer ∙ ap (planned_verdict depth) d, r.sized)),
    (λ (plan, e, l). level_answer f set goal some over ∙ ap accepted (level_at plan e ∙ ap (λ (x : ℕ). level x) l)),
  )

  pub reaches : (plan : List ℕ) → plan_rule file depth set goal found room ≡ accepted plan
      → Each set (λ s. So (within goal (relaxed_run (actions_of file c) plan (start_of file c s))))
  reaches plan e s b =
      let (plan', d, r) =
      plan_of_lem (actions_of file c) c.states (start_of file c) depth found (built f) some.few sound goal_lt (level_at plan e) in
      let same : planned plan' ≡ planned plan = sym d ∙ planned_at plan e in
      let q : plan' ≡ plan = cc in
      subst (λ (x : List ℕ). So (within goal (relaxed_run (actions_of file c) x (start_of file c s)))) q (r.works s (is_state some s b) b)

  pub none_exactly : Exactly ((t : ℕ) → level_rule file depth set goal found ≡ accepted (level t) → ⊥)
      (plan_rule file depth set goal found room ≡ refused 13 depth)
  unfolding planned_verdict
  none_exactly = (
    (λ h. plan_answer ∙ ap (planned_verdict depth)
        (no_level_of (actions_of file c) c.states (start_of file c) depth found (built f) some.few sound goal_lt
        (λ t e. h t (level_answer f set goal some over ∙ ap accepted e)))),
    (λ e t q.
        no_level_at (actions_of file c) c.states (start_of file c) depth found (built f) some.few sound goal_lt
        (no_level_means depth _ depth (sym plan_answer ∙ e)) (level_says_lem f set goal some over _ q)),
  )

  pub never_uncovered : (place : ℕ) → plan_rule file depth set goal found room ≡ refused 14 place → ⊥
  never_uncovered place e =
      never_stuck (actions_of file c) c.states (start_of file c) depth found (built f) some.few sound goal_lt
      (stuck_means depth _ place (sym plan_answer ∙ e))
