-- `calls::check_goal` meets its contract: a set below 2^P is at most the first P.
use native.Mathlib.Omega.{arith}
use lib.Pow.{pow_pos}
use Rattle.graph.proofs.Links.{wide_goal, fit_goal}
use Rattle.graph.proofs.checks.check_goal.Goals as goal

pub returns-then-first-goal : goal.returns-then-first-goal
returns-then-first-goal c = wide_goal _ _ (omega (arith, pow_pos c.args.props))

pub returns : goal.returns
returns c = fit_goal _ _ (omega (arith, pow_pos c.args.props))
