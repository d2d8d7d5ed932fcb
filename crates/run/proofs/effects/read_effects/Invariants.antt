-- The loop stores the two words of one effect after the other.
use Rattle.words.proofs.Writes.{Lists}
use Rattle.graph.specs.Format.{actions_of}
use Rattle.run.specs.Even.{goes_of}
use Rattle.run.proofs.effects.read_effects.Given as goal

abbrev pub invariant-loop-e : goal.invariant-loop-e
invariant-loop-e l =
    Lists (actions_of l.file.bytes.now l.file.counts).when 0 l.file.counts.effects l.initial.when l.e l.when × Lists (goes_of (actions_of l.file.bytes.now l.file.counts)) 0 l.file.counts.effects l.initial.goes l.e l.goes
