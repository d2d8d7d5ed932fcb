-- The loop adds one weight after the other.
use Rattle.share.proofs.Totals.{Added}
use Rattle.share.proofs.weights.total.Given as goal

abbrev pub invariant-loop-weight : goal.invariant-loop-weight
invariant-loop-weight l = Added l.weights l.weight-index l.sum
