use native.Mathlib.Omega.{arith}
use Rattle.together.proofs.Cuts.{cut_columns_none, cut_columns_more}
use Rattle.together.proofs.cut.cut_columns.Goals as goal

pub loop-i-init : goal.loop-i-init
loop-i-init c = cut_columns_none c.requires.long

pub clear_column-requires : goal.clear_column-requires
clear_column-requires c = (c.loop-i.invariant.long, omega arith, omega (arith, c.from.ensures, c.type_inv.dels c.loop-i.i))

pub loop-i-preserved : goal.loop-i-preserved
loop-i-preserved c = cut_columns_more c.loop-i.invariant (omega arith) c.from.ensures
    c.clear_column.ensures

pub shape_of-turned : goal.shape_of-turned
shape_of-turned c = omega (arith, c.loop-i.invariant.long)

pub returns : goal.returns
returns c = λ i q h. c.loop-i.invariant.done i q (omega arith) (omega arith)
