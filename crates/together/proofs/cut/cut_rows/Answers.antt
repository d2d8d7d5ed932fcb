use native.Mathlib.Omega.{arith}
use Rattle.together.proofs.Cuts.{cut_rows_none, cut_rows_more}
use Rattle.together.proofs.cut.cut_rows.Goals as goal

pub loop-i-init : goal.loop-i-init
loop-i-init c = cut_rows_none c.requires.long

pub clear_cells-requires : goal.clear_cells-requires
clear_cells-requires c = (c.loop-i.invariant.done.long, omega arith, omega (arith, c.from.ensures, c.type_inv.dels c.loop-i.i))

pub loop-i-preserved : goal.loop-i-preserved
loop-i-preserved c = cut_rows_more c.loop-i.invariant (omega arith) (omega arith) c.from.ensures
    c.clear_cells.ensures

pub shape_of-r : goal.shape_of-r
shape_of-r c = omega (arith, c.loop-i.invariant.done.long)

pub returns : goal.returns
returns c = λ i q h l. c.loop-i.invariant.done.is i q (omega arith) l
