-- `checks::check_asked` meets its contract: the set first, then the goal.
use Rattle.graph.specs.Checks.{asked_rule}
use Rattle.graph.proofs.Verdicts.{ends_at, goes_on}
use Rattle.graph.proofs.checks.check_asked.Goals as goal

pub returns-in_err-check_set : goal.returns-in_err-check_set
unfolding asked_rule
returns-in_err-check_set c = ends_at _ _ _ _ _ c.from_residual.ensures.1 c.in_err-check_set.ensures

pub returns : goal.returns
unfolding asked_rule
returns c = goes_on _ _ _ c.in_ok-check_set.ensures c.check_goal.ensures
