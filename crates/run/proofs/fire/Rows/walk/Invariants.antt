-- The steps so far had their preconditions; the loop is left at the first that has not. Behind a step that changed something the word leads on. The labels are
-- settled on both ways out.
use Prim.Native.Nat.{◌-◌}
use lib.ListN.{length}
use Rattle.graph.specs.Format.{actions_of}
use Rattle.run.specs.Fire.{settled, Stepping}
use Rattle.run.proofs.fire.Rows.walk.Given as goal

abbrev pub invariant-loop-i : goal.invariant-loop-i
invariant-loop-i l =
    Stepping (actions_of l.task.file.bytes.now l.task.file.counts) l.task.set.0 l.task.list.now l.initial.self.labels
    (settled l.task.set.0 l.course l.self.labels) l.i l.course l.idle

abbrev pub decreases-loop-i : goal.decreases-loop-i
decreases-loop-i l = length l.task.list.now - l.i
