-- `Plain::first_marked` meets its contract: the loop compares one action after the other with those marked before it, and marks it.
use Rattle.graph.specs.Format.{actions_of}
use Rattle.graph.proofs.Equals.{Marking}
use Rattle.graph.proofs.equal.Plain.first_marked.Given as goal

abbrev pub invariant-loop-a : goal.invariant-loop-a
invariant-loop-a l = Marking (actions_of l.self.bytes.now l.self.counts) l.self.counts.actions l.a l.lasts l.befores
