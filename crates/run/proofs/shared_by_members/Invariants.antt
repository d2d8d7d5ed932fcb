-- The loop takes one state of the set after the other.
use Rattle.graph.specs.Format.{start_of}
use Rattle.run.proofs.Starts.{Sharing}
use Rattle.run.proofs.shared_by_members.Given as goal

abbrev pub invariant-loop-s : goal.invariant-loop-s
invariant-loop-s l =
    Sharing (start_of l.file.bytes.now l.file.counts) l.file.counts.states l.fn.set.0 l.s-iterator.0 l.all l.some
