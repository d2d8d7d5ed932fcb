-- The loop joins one row after the other.
use lib.ListN.{get_or}
use Rattle.rules.specs.Word.{union}
use Rattle.rules.specs.Over.{join_of}
use Rattle.words.specs.Rows.{row_length, cell}
use Rattle.words.proofs.Cells.{Rows}
use Rattle.together.proofs.pairs.join_rows.Given as goal

abbrev pub invariant-loop-p : goal.invariant-loop-p
invariant-loop-p l = Rows (λ p' k. union (cell l.from p' k) (join_of row_length (get_or l.sets p' 0) (λ i. cell l.table i k))) l.width l.p l.to
