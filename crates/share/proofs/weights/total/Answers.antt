use native.Mathlib.Omega.{arith}
use borrow.Author.Rules.{rules}
use Rattle.share.proofs.Totals.{added_none, added_more, added_all}
use Rattle.share.proofs.weights.total.Goals as goal

pub loop-weight-init : goal.loop-weight-init
loop-weight-init c = added_none _

-- 64 weights of 16 bits stay far below 32 bits
pub overflow_add-sum : goal.overflow_add-sum
overflow_add-sum c = omega (arith, c.loop-weight.invariant.small, c.requires, c.items_fit c.loop-weight.weight-index)

pub loop-weight-preserved : goal.loop-weight-preserved
loop-weight-preserved c =
    added_more c.loop-weight.invariant c.loop-weight-test.true (omega (arith, c.items_fit c.loop-weight.weight-index))

pub returns : goal.returns
returns c = added_all c.loop-weight.invariant (omega arith) c.requires
