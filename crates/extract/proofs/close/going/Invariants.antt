-- The loop takes one state of the set after the other, counts those that lie below, and joins it if it has so far to go.
use Rattle.extract.proofs.MoveLoops.{Masked, going_at}
use Rattle.extract.proofs.close.going.Given as goal

abbrev pub invariant-loop-s : goal.invariant-loop-s
invariant-loop-s l = Masked (going_at l.fn.set.0 l.far) l.fn.set.0 l.s-iterator.0 l.under l.mask
