use native.Mathlib.Omega.{arith}
use Rattle.words.proofs.Cells.{rows_none, rows_put}
use Rattle.together.proofs.Rows.{parts_le}
use Rattle.together.proofs.pairs.gather_rows.Goals as goal

pub loop-p-init : goal.loop-p-init
loop-p-init c = rows_none (omega arith)

pub gather_row-requires : goal.gather_row-requires
gather_row-requires c =
    (record { whole = c.loop-p.invariant.long; inside = omega arith }, record { whole = c.requires.table_long; inside = c.requires.rows c.loop-p.p (omega arith) }, c.requires.parts)

pub loop-p-preserved : goal.loop-p-preserved
loop-p-preserved c =
    rows_put c.loop-p.invariant (omega arith) (parts_le c.requires.parts) c.gather_row.ensures

pub returns : goal.returns
returns c = λ p k h l. c.loop-p.invariant.is p k (omega arith) l
