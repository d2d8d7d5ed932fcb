-- The loop writes each effect into the three lists.
use Rattle.rules.specs.Domain.{condition}
use Rattle.words.proofs.Writes.{Lists}
use Rattle.graph.specs.Format.{actions_of}
use Rattle.plan.proofs.read_sets.Given as goal

abbrev pub invariant-loop-e : goal.invariant-loop-e
invariant-loop-e l =
    Lists (condition (actions_of l.file.bytes.now l.file.counts)) 0 l.file.counts.effects l.initial.needs l.e l.needs × Lists (actions_of l.file.bytes.now l.file.counts).owner 0 l.file.counts.effects l.initial.owners l.e l.owners
    × Lists (actions_of l.file.bytes.now l.file.counts).add 0 l.file.counts.effects l.initial.adds l.e l.adds
