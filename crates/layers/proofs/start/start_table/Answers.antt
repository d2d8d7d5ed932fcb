use mathlib.Core.Path.{◌∙◌}
use native.Mathlib.Omega.{arith}
use Rattle.rules.proofs.Members.{meet_empty}
use Rattle.words.specs.Rows.{row_length}
use Rattle.words.proofs.Cells.{rows_none, rows_put}
use Rattle.together.proofs.Rows.{parts_le}
use Rattle.layers.proofs.start.start_table.Goals as goal

pub loop-p-init : goal.loop-p-init
loop-p-init c = rows_none (omega arith)

pub offset_bounds-labels-p : goal.offset_bounds-labels-p
offset_bounds-labels-p c = omega (arith, parts_le c.requires.parts)

pub bounds-labels-p : goal.bounds-labels-p
bounds-labels-p c = omega (arith, parts_le c.requires.parts)

pub meet_row-requires : goal.meet_row-requires
meet_row-requires c = let few = parts_le c.requires.parts in
    (record { whole = c.loop-p.invariant.long; inside = omega arith }, c.requires.labels_long, record { whole = c.requires.spare_long; inside = omega arith }, c.requires.parts)

pub overflow_step-p : goal.overflow_step-p
overflow_step-p c = omega (arith, parts_le c.requires.parts)

pub loop-p-preserved : goal.loop-p-preserved
loop-p-preserved c = let few = parts_le c.requires.parts in
    rows_put c.loop-p.invariant (omega arith) few c.meet_row.ensures

pub returns : goal.returns
returns c = λ p q h k. c.loop-p.invariant.is p q (omega arith) k ∙ meet_empty row_length _
