use mathlib.Core.Path.{refl, sym}
use native.Mathlib.Nat.{zero-add}
use native.Mathlib.Omega.{arith}
use Rattle.words.proofs.Writes.{list_none, list_more, list_whole}
use Rattle.words.proofs.turned.widen.Goals as goal

pub loop-p-init : goal.loop-p-init
loop-p-init c = list_none (omega arith)

pub loop-p-preserved : goal.loop-p-preserved
loop-p-preserved c = list_more c.loop-p.invariant (omega arith) (sym (zero-add _)) c.from.ensures

pub shape_of-row : goal.shape_of-row
shape_of-row c = c.loop-p.invariant.long

pub returns : goal.returns
returns c = list_whole c.loop-p.invariant (omega arith) refl
