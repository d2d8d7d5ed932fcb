-- `Whole::find` meets its contract: the loop keeps what is left of the rule.
use Rattle.graph.specs.File.{sets_from}
use Rattle.graph.proofs.Files.{Left}
use Rattle.graph.proofs.file.Whole.find.Given as goal

abbrev pub invariant-loop-i : goal.invariant-loop-i
invariant-loop-i l = Left l.self.bytes.now l.self.counts.props (sets_from l.self.bytes.now l.self.counts.props l.count l.at) l.count l.at l.i
