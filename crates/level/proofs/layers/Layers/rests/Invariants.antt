-- The loop is left at the topmost layer that equals the next one; at its end none does.
use Rattle.rules.specs.Level.{layer_rests}
use Rattle.level.proofs.Searches.{Cleared}
use Rattle.level.proofs.layers.Layers.rests.Given as goal

abbrev pub invariant-loop-t : goal.invariant-loop-t
invariant-loop-t l = Cleared (layer_rests l.self.shape l.self.words.now) l.self.depth l.t
