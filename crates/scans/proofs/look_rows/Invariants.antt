-- Each way out is the scan of the rows.
use Rattle.scans.proofs.RowLoops.{Rowing}
use Rattle.scans.proofs.look_rows.Given as goal

abbrev pub invariant-loop-v : goal.invariant-loop-v
invariant-loop-v l = Rowing l.tables.besides l.tables.mates l.q l.fn.lower l.upper l.fn.both l.fn.before l.v-iterator.0 l.left l.looked
