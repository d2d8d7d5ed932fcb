-- The loop empties the word of one named row after the other.
use Rattle.words.proofs.Cells.{ColumnClears}
use Rattle.words.proofs.tables.clear_column.Given as goal

abbrev pub invariant-loop-p : goal.invariant-loop-p
invariant-loop-p l = ColumnClears l.column l.set l.initial.table l.p-iterator.0 l.table
