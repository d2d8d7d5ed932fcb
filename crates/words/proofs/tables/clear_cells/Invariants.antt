-- The loop empties one named cell after the other.
use Rattle.words.proofs.Cells.{Clears}
use Rattle.words.proofs.tables.clear_cells.Given as goal

abbrev pub invariant-loop-k : goal.invariant-loop-k
invariant-loop-k l = Clears l.row l.set l.initial.table l.k-iterator.0 l.table
