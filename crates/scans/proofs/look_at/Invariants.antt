-- Each way out is the scan.
use Rattle.scans.proofs.Looks.{Looking}
use Rattle.scans.proofs.look_at.Given as goal

abbrev pub invariant-loop-i : goal.invariant-loop-i
invariant-loop-i l = Looking l.table l.base l.step l.fn.set l.fn.both l.fn.before l.i-iterator.0 l.left l.looked
