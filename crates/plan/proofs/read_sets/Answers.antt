use mathlib.Core.Path.{sym}
use native.Mathlib.Omega.{arith}
use native.Mathlib.Nat.{zero-add}
use borrow.Author.Rules.{rules as simple}
use Rattle.words.proofs.Writes.{list_none, list_more, list_done, list_whole}
use Rattle.plan.proofs.read_sets.Goals as goal

pub loop-e-init : goal.loop-e-init
loop-e-init c = (list_none (omega arith), list_none (omega arith), list_none (omega arith))

pub loop-e-preserved : goal.loop-e-preserved
loop-e-preserved c = let i = c.loop-e.invariant in (
  list_more i.0 (omega arith) (sym (zero-add _)) c.condition.ensures,
  list_more i.1 (omega arith) (sym (zero-add _)) c.owner.ensures.0,
  list_more i.2 (omega arith) (sym (zero-add _)) c.added.ensures,
)

pub returns : goal.returns
returns c = let i = c.loop-e.invariant in
    (list_whole i.0 (omega arith) (search simple), list_whole i.1 (omega arith) (search simple), list_done i.2 (omega arith))
