-- The loop takes one goal above p after the other, and is left at the first that is mutex with p for a state of the set.
use Rattle.level.specs.Meets.{pair_meets}
use Rattle.level.proofs.Goals.{Left}
use Rattle.level.proofs.goal.clashing.Given as goal

abbrev pub invariant-loop-q : goal.invariant-loop-q
invariant-loop-q l = Left (pair_meets l.n l.layer l.set.0 l.p) l.n l.fn.above l.q-iterator.0
