use Rattle.run.proofs.Sequences.{most_none, most_more}
use native.Mathlib.Omega.{arith}
use Rattle.run.proofs.greatest.Goals as goal

pub loop-a-init : goal.loop-a-init
loop-a-init c = most_none

pub loop-a-preserved : goal.loop-a-preserved
loop-a-preserved c = most_more c.loop-a.invariant (omega arith) c.max-most.ensures
