-- `Plain::equals_earlier` meets its contract: each of the earlier actions with its mark is compared, the last one first.
use Rattle.graph.specs.Format.{actions_of}
use Rattle.graph.proofs.Equals.{Walked}
use Rattle.graph.proofs.equal.Plain.equals_earlier.Given as goal

abbrev pub invariant-loop-left : goal.invariant-loop-left
invariant-loop-left l = Walked (actions_of l.self.bytes.now l.self.counts) l.a l.left

abbrev pub decreases-loop-left : goal.decreases-loop-left
decreases-loop-left l = l.left
