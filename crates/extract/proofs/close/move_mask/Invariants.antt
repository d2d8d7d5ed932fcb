-- The loop takes one state of the set after the other, counts those that lie below, and joins where it stands if it goes down.
use Rattle.extract.proofs.MoveLoops.{Masked, moving_at}
use Rattle.extract.proofs.close.move_mask.Given as goal

abbrev pub invariant-loop-s : goal.invariant-loop-s
invariant-loop-s l = Masked (moving_at l.fn.set.0 l.i) l.fn.set.0 l.s-iterator.0 l.under l.mask
