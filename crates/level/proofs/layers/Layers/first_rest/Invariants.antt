-- The loop is left at the first layer that equals the next one; at its end none does.
use Rattle.rules.specs.Level.{layer_rests}
use Rattle.level.proofs.Searches.{Sought}
use Rattle.level.proofs.layers.Layers.first_rest.Given as goal

abbrev pub invariant-loop-first : goal.invariant-loop-first
invariant-loop-first l = Sought (layer_rests l.self.shape l.self.words.now) l.self.depth l.first
