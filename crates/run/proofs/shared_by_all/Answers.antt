use native.Mathlib.Omega.{arith}
use Rattle.run.proofs.Starts.{passing_none, passing_more, passing_done}
use Rattle.run.proofs.shared_by_all.Goals as goal

pub loop-s-init : goal.loop-s-init
loop-s-init c = passing_none c.first-all.ensures

pub loop-s-preserved : goal.loop-s-preserved
loop-s-preserved c = passing_more c.loop-s.invariant (omega arith) c.start-x.ensures

pub returns : goal.returns
returns c = passing_done c.loop-s.invariant (omega arith)
