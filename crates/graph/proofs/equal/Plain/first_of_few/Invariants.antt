-- `Plain::first_of_few` meets its contract: the loop goes over the earlier action of a pair, and keeps the first later one.
use Rattle.graph.specs.Format.{actions_of}
use Rattle.graph.proofs.Equals.{Firsts}
use Rattle.graph.proofs.equal.Plain.first_of_few.Given as goal

abbrev pub invariant-loop-b : goal.invariant-loop-b
invariant-loop-b l = Firsts (actions_of l.self.bytes.now l.self.counts) l.self.counts.actions l.b l.first
