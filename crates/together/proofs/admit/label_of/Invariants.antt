-- The loop takes one need after the other.
use Rattle.together.proofs.Rows.{Labels}
use Rattle.together.proofs.admit.label_of.Given as goal

abbrev pub invariant-loop-left : goal.invariant-loop-left
invariant-loop-left l = Labels l.all l.t l.need l.left l.label

abbrev pub decreases-loop-left : goal.decreases-loop-left
decreases-loop-left l = l.left
