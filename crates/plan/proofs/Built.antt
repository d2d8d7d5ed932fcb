-- What it means that a plan is accepted.
-- Assumes nothing.
use mathlib.Core.Path.{◌≡◌}
use mathlib.Core.List.{List}
use Prim.Native.Nat.{ℕ, ◌≤◌}
use lib.ListN.{length}
use Rattle.rules.specs.Plan.{Planned, planned, stuck, no_level, plan_of}
use Rattle.graph.specs.Verdict.{accepted}
use Rattle.graph.specs.Format.{actions_of}
use Rattle.graph.specs.File.{Taken, file_rule}
use Rattle.graph.specs.Checks.{Passed, asked_rule}
use Rattle.graph.specs.declared.format.Counts.{Counts}
use Rattle.graph.proofs.Verdicts.{passed_then}
use Rattle.graph.proofs.Ladder.{taken_means, graph_means, output_means}
use Rattle.plan.specs.Plan.{planned_verdict, plan_taken, plan_rule}

-- the file is taken, each check is passed, and the words are those of the definition
pub record Accepted (file : List ℕ) (depth set goal : ℕ) (words : List ℕ) (room : ℕ) (plan : List ℕ) : Type 0 where
  pub counts : Counts
  pub rule : file_rule file ≡ accepted counts
  pub taken : Taken file counts
  pub passed : Passed counts depth (asked_rule counts set goal) (length words)
  pub fits : depth ≤ room
  pub answer : plan_of (actions_of file counts) depth set goal words ≡ planned plan

words_of : (depth : ℕ) (d : Planned) (plan : List ℕ) → planned_verdict depth d ≡ accepted plan → d ≡ planned plan
unfolding planned_verdict
words_of depth (planned words) plan e = cc
words_of depth (stuck t) plan e = cc
words_of depth no_level plan e = cc

pub plan_accepted : (file : List ℕ) (depth set goal : ℕ) (words : List ℕ) (room : ℕ) (plan : List ℕ)
    → plan_rule file depth set goal words room ≡ accepted plan → Accepted file depth set goal words room plan
unfolding plan_rule plan_taken
plan_accepted file depth set goal words room plan e =
    let (c, f, e₁) = passed_then (file_rule file) _ plan e in
    let (u, g, e₂) = passed_then _ _ plan e₁ in
    let (v, o, e₃) = passed_then _ _ plan e₂ in
    record {
      counts = c;
      rule = f;
      taken = taken_means file c f;
      passed = graph_means c depth _ _ g;
      fits = output_means _ _ o;
      answer = words_of depth _ plan e₃;
    }
