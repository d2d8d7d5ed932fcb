use Rattle.run.proofs.Idles.{alike_none, alike_more, alike_done}
use Rattle.run.proofs.fire.differ.Goals as goal

pub loop-p-init : goal.loop-p-init
loop-p-init c = alike_none

pub loop-p-preserved : goal.loop-p-preserved
loop-p-preserved c = alike_more c.loop-p.invariant c.loop-p-test.true

pub returns : goal.returns
returns c = alike_done c.loop-p.invariant c.loop-p-test.false
