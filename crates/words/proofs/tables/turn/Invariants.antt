-- The loop turns one column after the other.
use Rattle.words.specs.Rows.{cell}
use Rattle.words.proofs.Cells.{Rows}
use Rattle.words.proofs.tables.turn.Given as goal

abbrev pub invariant-loop-j : goal.invariant-loop-j
invariant-loop-j l = Rows (λ j' i. cell l.from i j') l.m l.j l.to
