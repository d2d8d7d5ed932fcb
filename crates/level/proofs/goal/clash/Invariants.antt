-- The loop takes one goal after the other, each with those above it, and is left at the first that is mutex with one of them.
use Rattle.level.specs.Meets.{pair_meets}
use Rattle.level.proofs.Goals.{LeftTwo}
use Rattle.level.proofs.goal.clash.Given as goal

abbrev pub invariant-loop-p : goal.invariant-loop-p
invariant-loop-p l = LeftTwo (pair_meets l.n l.layer l.set.0) l.n l.fn.goal.0 l.left.0

abbrev pub decreases-loop-p : goal.decreases-loop-p
decreases-loop-p l = l.left.0
