-- The relaxed plan's rule, over the words as found.
use Rattle.std.specs.Prelude.{ℕ, List, Result, length}
use Rattle.rules.specs.Plan.{Planned, planned, stuck, no_level, plan_of, plan_count}
use Rattle.graph.specs.Verdict.{Verdict, accepted, refused, verdict_by, and_then}
use Rattle.graph.specs.Format.{actions_of}
use Rattle.graph.specs.File.{file_rule}
use Rattle.graph.specs.Checks.{asked_rule, graph_rule, output_rule}
use Rattle.graph.specs.declared.format.Counts.{Counts}
use Rattle.graph.specs.declared.refusal.Refusal.{Refusal}
use Rattle.plan.specs.declared.Planned.{Planned as Answer}

-- 'The answer holds the level, which is the number of words written, and a count.'
pub record Made : Type 0 where
  pub level : ℕ
  pub count : ℕ

abbrev pub plan_verdict : Result Answer Refusal → Verdict Made
plan_verdict r = verdict_by (λ plan. record { level = plan.level; count = plan.marked }) r

-- what the answer says of the words of a plan
unfoldable pub made : Verdict (List ℕ) → Verdict Made
made (accepted plan) = accepted (record { level = length plan; count = plan_count plan })
made (refused number place) = refused number place

-- 13: 'a plan is wanted and there is no level (the depth)'; 14: 'states left uncovered (the layer t of that proposition), or at layer 0 a need outside its
-- label'
unfoldable pub planned_verdict : ℕ → Planned → Verdict (List ℕ)
planned_verdict depth (planned plan) = accepted plan
planned_verdict depth (stuck t) = refused 14 t
planned_verdict depth no_level = refused 13 depth

-- once the file is taken: causes 6 to 9, 10 ('plan k words'), 13 and 14, in that order; else the plan's words
unfoldable pub plan_taken : List ℕ → Counts → ℕ → ℕ → ℕ → List ℕ → ℕ → Verdict (List ℕ)
plan_taken file c depth set goal words room =
    and_then (graph_rule c depth (asked_rule c set goal) (length words)) (λ _.
    and_then (output_rule depth room) (λ _.
    planned_verdict depth (plan_of (actions_of file c) depth set goal words)))

unfoldable pub plan_rule : List ℕ → ℕ → ℕ → ℕ → List ℕ → ℕ → Verdict (List ℕ)
plan_rule file depth set goal words room = and_then (file_rule file) (λ c. plan_taken file c depth set goal words room)
