use native.Mathlib.Omega.{arith}
use Rattle.graph.proofs.Equals.{firsts_none, firsts_more, firsts_done}
use Rattle.graph.proofs.equal.Plain.first_of_few.Goals as goal

pub loop-b-init : goal.loop-b-init
loop-b-init c = firsts_none

pub loop-b-preserved : goal.loop-b-preserved
loop-b-preserved c = firsts_more c.loop-b.invariant c.equal_after-first.ensures

pub returns : goal.returns
returns c = firsts_done _ _ c.loop-b.invariant (omega arith)
