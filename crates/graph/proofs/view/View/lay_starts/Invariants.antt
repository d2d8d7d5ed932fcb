-- The loop writes one set after the other, into the front of the list.
use Rattle.words.proofs.Writes.{Lists}
use Rattle.graph.specs.Format.{start_of}
use Rattle.graph.proofs.view.View.lay_starts.Given as goal

abbrev pub invariant-loop-s : goal.invariant-loop-s
invariant-loop-s l = Lists (start_of l.self.bytes.now l.self.counts) 0 l.self.counts.states l.initial.set-items l.s l.set-items
