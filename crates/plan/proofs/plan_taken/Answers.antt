-- Each check answers as the rule of its causes, in order; past them the plan is made.
use mathlib.Core.Path.{◌≡◌, refl, sym, ap, ◌∙◌}
use Prim.Native.Nat.{ℕ}
use lib.ListN.{length}
use Rattle.graph.specs.declared.format.Counts.{Counts}
use Rattle.graph.specs.Verdict.{Verdict, accepted}
use Rattle.graph.specs.Checks.{asked_rule, graph_rule}
use Rattle.graph.proofs.Ladder.{graph_means, asked_means, goal_means, output_means, small_of}
use Rattle.graph.proofs.Verdicts.{goes_on}
use Rattle.plan.specs.Plan.{plan_taken}
use Rattle.plan.proofs.Answers.{stops, handed_back, equal_rule_lem}
use Rattle.plan.proofs.plan_taken.Goals as goal
use Rattle.plan.proofs.plan_taken.Goals.{In_ok-check_graph}

-- what was found of the set and the goal is their rule
asked : (c : Counts) (depth have : ℕ) {found found' : Verdict (Unit {0})} → found ≡ found' → graph_rule c depth found have ≡ graph_rule c depth found' have
asked c depth have e = ap (λ (v : Verdict (Unit {0})). graph_rule c depth v have) e

-- causes 6 to 9 are passed
passed : (c : In_ok-check_graph) → let a = c.args in accepted tt ≡ graph_rule a.file.now.counts a.depth (asked_rule a.file.now.counts a.set.0 a.goal.0) (length a.words.now)
passed c = c.in_ok-check_graph.ensures ∙ asked _ _ _ c.check_asked.ensures

pub returns-in_err-check_graph : goal.returns-in_err-check_graph
unfolding plan_taken
returns-in_err-check_graph c = handed_back _ _ _ _ c.from_residual.ensures.1 (stops _ _ _ (c.in_err-check_graph.ensures ∙ asked _ _ _ c.check_asked.ensures))

pub returns-in_err-check_output : goal.returns-in_err-check_output
unfolding plan_taken
returns-in_err-check_output c = handed_back _ _ _ _ c.from_residual-in_err-check_output.ensures.1
    (goes_on _ _ _ (passed (goal.at.returns-in_err-check_output c).In_ok-check_graph) (stops _ _ _ c.in_err-check_output.ensures))

pub plan_over-requires : goal.plan_over-requires
plan_over-requires c =
    let p = graph_means _ _ _ _ (sym (passed (goal.at.plan_over-requires c).In_ok-check_graph)) in (
      record { small = small_of _ c.args.file.now.taken.ranged; deep = p.deep; fits = p.fits },
      goal_means _ _ (asked_means _ _ _ p.fine).1,
      output_means _ _ (sym c.in_ok-check_output.ensures),
    )

pub returns : goal.returns
unfolding plan_taken
returns c =
    equal_rule_lem c.args.out.now _ _
    (goes_on _ _ _ (passed (goal.at.returns c).In_ok-check_graph) (goes_on _ _ _ c.in_ok-check_output.ensures refl))
    c.plan_over.ensures
