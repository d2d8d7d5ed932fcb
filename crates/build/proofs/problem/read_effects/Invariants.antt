-- The loop writes each effect into the four lists.
use Rattle.rules.specs.Domain.{condition}
use Rattle.graph.specs.Format.{actions_of}
use Rattle.words.proofs.Writes.{Lists}
use Rattle.build.proofs.problem.read_effects.Given as goal

abbrev pub invariant-loop-i : goal.invariant-loop-i
invariant-loop-i l =
    Lists (condition (actions_of l.file.bytes.now l.file.counts)) 0 l.file.counts.effects l.initial.needs l.i l.needs × Lists (actions_of l.file.bytes.now l.file.counts).add 0 l.file.counts.effects l.initial.adds l.i l.adds
    × Lists (actions_of l.file.bytes.now l.file.counts).del 0 l.file.counts.effects l.initial.dels l.i l.dels × Lists (actions_of l.file.bytes.now l.file.counts).owner 0 l.file.counts.effects l.initial.owners l.i l.owners
