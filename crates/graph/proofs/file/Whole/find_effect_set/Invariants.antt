-- `Whole::find_effect_set` meets its contract: the loop keeps what is left of the rule.
use Rattle.graph.proofs.Files.{EffectsLeft}
use Rattle.graph.proofs.file.Whole.find_effect_set.Given as goal

abbrev pub invariant-loop-e : goal.invariant-loop-e
invariant-loop-e l = EffectsLeft l.self.bytes.now l.self.counts l.e
