-- The loop moves one state of the set after the other.
use lib.ListN.{length}
use Rattle.run.specs.Course.{came}
use Rattle.run.proofs.Touches.{Changes}
use Rattle.run.proofs.move_members.Given as goal

abbrev pub invariant-loop-s : goal.invariant-loop-s
invariant-loop-s l =
    Changes (λ j x. came l.course x) (length l.initial.out) l.fn.set.0 l.initial.out l.s-iterator.0 l.out
