-- `check_wanted` meets its contract: cause 8, and then 18.
use Rattle.graph.proofs.Verdicts.{ends_at, goes_on}
use Rattle.share.proofs.check_wanted.Goals as goal

pub returns-in_err-check_goal : goal.returns-in_err-check_goal
returns-in_err-check_goal c = ends_at _ _ _ _ _ c.from_residual.ensures.1 c.in_err-check_goal.ensures

pub returns : goal.returns
returns c = goes_on _ _ _ c.in_ok-check_goal.ensures c.check_weights.ensures
