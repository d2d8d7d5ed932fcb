-- The loop makes one row after the other.
use lib.ListN.{get_or}
use Rattle.rules.specs.Word.{common}
use Rattle.rules.specs.Over.{meet_of}
use Rattle.words.specs.Rows.{row_length, cell}
use Rattle.words.proofs.Cells.{Rows}
use Rattle.layers.proofs.start.start_table.Given as goal

abbrev pub invariant-loop-p : goal.invariant-loop-p
invariant-loop-p l = Rows (λ p' q. meet_of row_length 0 (λ i. cell l.spare i q) (common (get_or l.labels q 0) (get_or l.labels p' 0))) l.width l.p l.t
