-- The loop takes one state of the set after the other. With each it is no more than all weigh.
use Rattle.share.proofs.Totals.{Weighing}
use Rattle.share.proofs.weights.weight.Given as goal

abbrev pub invariant-loop-s : goal.invariant-loop-s
invariant-loop-s l = Weighing l.weights l.fn.set.0 l.s-iterator.0 l.sum
