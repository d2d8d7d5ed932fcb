-- `Plain::equal_after` meets its contract: the loop is left at the first action that is equal; at its end none is.
use Rattle.graph.specs.Format.{actions_of}
use Rattle.graph.proofs.Equals.{Looked}
use Rattle.graph.proofs.equal.Plain.equal_after.Given as goal

abbrev pub invariant-loop-later : goal.invariant-loop-later
invariant-loop-later l = Looked (actions_of l.self.bytes.now l.self.counts) l.b l.later
