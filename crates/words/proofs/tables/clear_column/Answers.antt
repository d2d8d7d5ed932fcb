use mathlib.Core.Path.{refl}
use native.Mathlib.Omega.{arith}
use Rattle.words.proofs.Cells.{column_none, column_more, column_done}
use Rattle.words.proofs.FoldLaws.{taken_lt}
use Rattle.words.proofs.tables.clear_column.Goals as goal

pub loop-p-init : goal.loop-p-init
loop-p-init c = rw c.into_iter-p-iterator.ensures.into_iter_gives (column_none c.requires.2)

pub overflow_mul-table : goal.overflow_mul-table
overflow_mul-table c = omega (arith, taken_lt c.in-Some.ensures.steps c.loop-p.invariant.inside)

pub overflow_add-table : goal.overflow_add-table
overflow_add-table c = omega (arith, taken_lt c.in-Some.ensures.steps c.loop-p.invariant.inside)

pub offset_bounds-table-p : goal.offset_bounds-table-p
offset_bounds-table-p c = omega (arith, taken_lt c.in-Some.ensures.steps c.loop-p.invariant.inside)

pub bounds-table-p : goal.bounds-table-p
bounds-table-p c = omega (arith, taken_lt c.in-Some.ensures.steps c.loop-p.invariant.inside)

pub loop-p-preserved : goal.loop-p-preserved
loop-p-preserved c =
    let t = c.in-Some.ensures.steps in
    column_more c.loop-p.invariant c.requires.0 c.requires.1 t.some t.is refl t.others

pub shape_of-table : goal.shape_of-table
shape_of-table c = c.loop-p.invariant.long

pub returns : goal.returns
returns c = column_done c.loop-p.invariant (omega (arith, c.in-None.ensures.steps.0))
