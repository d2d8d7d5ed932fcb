use Prim.Native.Nat.{◌≤◌}
use native.Mathlib.Omega.{arith}
use lib.Count.{ones, ones-le}
use lib.ListN.{get_or}
use Rattle.words.specs.Width.{word_width}
use Rattle.build.proofs.problem.count_interferers.Goals as goal
use Rattle.build.proofs.problem.count_interferers.Goals.{In-loop-set}

few : (c : In-loop-set) → ones (get_or c.args.interferers.now c.loop-set.set-index 0) ≤ word_width
few c = ones-le word_width _ (c.type_inv.interferers c.loop-set.set-index).fits

pub overflow_add-count : goal.overflow_add-count
overflow_add-count c = omega (arith, c.loop-set.invariant, few (goal.at.overflow_add-count c).In-loop-set)

pub loop-set-preserved : goal.loop-set-preserved
loop-set-preserved c = omega (arith, c.loop-set.invariant, few (goal.at.loop-set-preserved c).In-loop-set)

pub returns : goal.returns
returns c = omega (arith, c.loop-set.invariant)
