use native.Mathlib.Omega.{arith}
use Rattle.words.proofs.Cells.{rows_none, rows_put}
use Rattle.together.proofs.Rows.{parts_le}
use Rattle.together.proofs.pairs.join_rows.Goals as goal

pub loop-p-init : goal.loop-p-init
loop-p-init c = rows_none (omega arith)

pub join_row-requires : goal.join_row-requires
join_row-requires c =
    let pre = c.requires.0 in
    (record { whole = c.loop-p.invariant.long; inside = omega arith }, c.requires.1, record { whole = pre.table_long; inside = pre.rows c.loop-p.p (omega arith) }, pre.parts)

pub loop-p-preserved : goal.loop-p-preserved
loop-p-preserved c =
    rows_put c.loop-p.invariant (omega arith) (parts_le c.requires.0.parts) c.join_row.ensures

pub returns : goal.returns
returns c = λ p k h l. c.loop-p.invariant.is p k (omega arith) l
