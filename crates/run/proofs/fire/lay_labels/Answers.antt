use mathlib.Core.Path.{refl, sym}
use native.Mathlib.Omega.{arith}
use native.Mathlib.Nat.{zero-add}
use Rattle.words.proofs.Writes.{list_none, list_more, list_whole}
use Rattle.run.proofs.fire.lay_labels.Goals as goal

pub loop-s-init : goal.loop-s-init
loop-s-init c = list_none (omega arith)

pub set_in-requires : goal.set_in-requires
set_in-requires c = omega (arith, c.requires, c.loop-s.invariant.long)

pub loop-s-preserved : goal.loop-s-preserved
loop-s-preserved c = list_more c.loop-s.invariant (omega arith) (sym (zero-add _)) c.set_in.ensures

pub shape_of-out : goal.shape_of-out
shape_of-out c = c.loop-s.invariant.long

pub returns : goal.returns
returns c = list_whole c.loop-s.invariant (omega arith) refl
