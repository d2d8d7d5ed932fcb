use native.Mathlib.Omega.{arith}
use Rattle.words.proofs.Cells.{rows_none, rows_put}
use Rattle.words.proofs.tables.turn.Goals as goal

pub loop-j-init : goal.loop-j-init
loop-j-init c = rows_none (omega arith)

pub loop-j-preserved : goal.loop-j-preserved
loop-j-preserved c =
    rows_put c.loop-j.invariant (omega arith) (omega arith) c.turn_column.ensures

pub returns : goal.returns
returns c = λ i j h l. c.loop-j.invariant.is j i (omega arith) h
