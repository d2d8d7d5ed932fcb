use mathlib.Core.Path.{sym}
use native.Mathlib.Omega.{arith}
use native.Mathlib.Nat.{zero-add}
use borrow.Author.Rules.{rules as simple}
use Rattle.words.proofs.Writes.{list_none, list_more, list_whole}
use Rattle.together.proofs.interference.interferer_sets.Goals as goal

pub loop-i-init : goal.loop-i-init
loop-i-init c = list_none (omega arith)

pub bounds-interferers-i : goal.bounds-interferers-i
bounds-interferers-i c = omega (arith, c.loop-i.invariant.long)

pub loop-i-preserved : goal.loop-i-preserved
loop-i-preserved c = list_more c.loop-i.invariant (search simple) (sym (zero-add _)) c.interferers_of.ensures

pub shape_of-interferers : goal.shape_of-interferers
shape_of-interferers c = c.loop-i.invariant.long

pub returns : goal.returns
returns c = list_whole c.loop-i.invariant (search simple) (search simple)
