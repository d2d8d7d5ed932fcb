-- `calls::check_depth` meets its contract: each return is one side of the rule.
use Rattle.graph.proofs.Links.{too_deep, deep_enough}
use Rattle.graph.proofs.checks.check_depth.Goals as goal

pub returns-then-depth-gt-MAX_DEPTH : goal.returns-then-depth-gt-MAX_DEPTH
returns-then-depth-gt-MAX_DEPTH c = too_deep _ c.if-depth-gt-MAX_DEPTH.true

pub returns : goal.returns
returns c = deep_enough _ c.if-depth-gt-MAX_DEPTH.false
