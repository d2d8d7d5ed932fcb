use mathlib.Core.Path.{refl}
use native.Mathlib.Omega.{arith}
use Rattle.words.proofs.Cells.{clears_none, clears_more, clears_done}
use Rattle.words.proofs.FoldLaws.{taken_lt}
use Rattle.words.proofs.tables.clear_cells.Goals as goal

pub loop-k-init : goal.loop-k-init
loop-k-init c = rw c.into_iter-k-iterator.ensures.into_iter_gives (clears_none c.requires.2)

pub overflow_add-table : goal.overflow_add-table
overflow_add-table c = omega (arith, taken_lt c.in-Some.ensures.steps c.loop-k.invariant.inside)

pub offset_bounds-table-row : goal.offset_bounds-table-row
offset_bounds-table-row c = omega (arith, taken_lt c.in-Some.ensures.steps c.loop-k.invariant.inside)

pub bounds-table-row : goal.bounds-table-row
bounds-table-row c = omega (arith, taken_lt c.in-Some.ensures.steps c.loop-k.invariant.inside)

pub loop-k-preserved : goal.loop-k-preserved
loop-k-preserved c =
    let t = c.in-Some.ensures.steps in
    clears_more c.loop-k.invariant c.requires.0 c.requires.1 t.some t.is refl t.others

pub shape_of-table : goal.shape_of-table
shape_of-table c = c.loop-k.invariant.long

pub returns : goal.returns
returns c = clears_done c.loop-k.invariant c.requires.0 c.requires.1 (omega (arith, c.in-None.ensures.steps.0))
