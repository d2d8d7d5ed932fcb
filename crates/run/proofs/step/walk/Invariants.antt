-- The steps so far had their preconditions; the last of them is counted in the next turn.
use Rattle.run.proofs.Walks.{Walking}
use Rattle.run.proofs.step.walk.Given as goal

abbrev pub invariant-loop-i : goal.invariant-loop-i
invariant-loop-i l =
    Walking l.needs l.leave l.bring l.list l.from l.course l.before l.left l.idle l.i
