-- The loop stores the precondition of one action after the other.
use Rattle.words.proofs.Writes.{Lists}
use Rattle.graph.specs.Format.{actions_of}
use Rattle.run.proofs.effects.read_needs.Given as goal

abbrev pub invariant-loop-a : goal.invariant-loop-a
invariant-loop-a l = Lists (actions_of l.file.bytes.now l.file.counts).pre 0 l.file.counts.actions l.initial.needs l.a l.needs
