-- The loop writes the word of one effect after the other, and joins what they do.
use Rattle.run.proofs.Touches.{Firing}
use Rattle.run.specs.Fire.{settled}
use Rattle.graph.specs.Format.{actions_of}
use Rattle.run.proofs.fire.fire.Given as goal

abbrev pub invariant-loop-e : goal.invariant-loop-e
invariant-loop-e l =
    Firing (actions_of l.file.bytes.now l.file.counts) l.set.0 l.by (settled l.set.0 l.course l.labels) l.initial.fired l.e-iterator.0 l.did l.fired
