use mathlib.Core.Path.{sym}
use native.Mathlib.Omega.{arith}
use native.Mathlib.Nat.{zero-add}
use borrow.Author.Rules.{rules as simple}
use Rattle.words.proofs.Writes.{list_none, list_more, list_whole}
use Rattle.build.proofs.problem.read_effects.Goals as goal

pub loop-i-init : goal.loop-i-init
loop-i-init c = (list_none (omega arith), list_none (omega arith), list_none (omega arith), list_none (omega arith))

pub loop-i-preserved : goal.loop-i-preserved
loop-i-preserved c = let i = c.loop-i.invariant in (
  list_more i.0 (omega arith) (sym (zero-add _)) c.condition.ensures,
  list_more i.1 (omega arith) (sym (zero-add _)) c.added.ensures,
  list_more i.2 (omega arith) (sym (zero-add _)) c.deleted.ensures,
  list_more i.3 (omega arith) (sym (zero-add _)) c.owner.ensures.0,
)

pub shape_of-needs : goal.shape_of-needs
shape_of-needs c = c.loop-i.invariant.0.long

pub shape_of-adds : goal.shape_of-adds
shape_of-adds c = c.loop-i.invariant.1.long

pub shape_of-dels : goal.shape_of-dels
shape_of-dels c = c.loop-i.invariant.2.long

pub shape_of-owners : goal.shape_of-owners
shape_of-owners c = c.loop-i.invariant.3.long

pub returns : goal.returns
returns c = let i = c.loop-i.invariant in (
  list_whole i.0 (omega arith) (search simple),
  list_whole i.1 (omega arith) (search simple),
  list_whole i.2 (omega arith) (search simple),
  list_whole i.3 (omega arith) (search simple),
)
