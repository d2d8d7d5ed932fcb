-- The loop takes one state after the other.
use Rattle.graph.specs.Format.{start_of}
use Rattle.run.proofs.Starts.{Passing}
use Rattle.run.proofs.shared_by_all.Given as goal

abbrev pub invariant-loop-s : goal.invariant-loop-s
invariant-loop-s l = Passing (start_of l.file.bytes.now l.file.counts) l.file.counts.states l.s l.all l.some
