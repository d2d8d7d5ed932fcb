use Rattle.plan.proofs.Counts.{count_more, count_done}
use Rattle.words.specs.Width.{prop_width}
use lib.Count.{ones-le}
use mathlib.Core.Path.{sym}
use native.Mathlib.Omega.{arith}
use Rattle.plan.proofs.output.count.Goals as goal

pub loop-marks-preserved : goal.loop-marks-preserved
loop-marks-preserved c = (omega arith, omega arith, omega (arith, ones-le prop_width _ (c.type_inv.plan c.loop-marks.marks-index).fits), count_more _ _ _ _ c.loop-marks.invariant.3 c.loop-marks-test.true)

pub returns : goal.returns
returns c = sym (count_done c.args.plan.now _ _ c.loop-marks.marks-index c.loop-marks.invariant.3 (omega arith))
