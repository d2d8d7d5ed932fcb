-- The loop goes from layer to layer at the same place, and is left at the first that shows what is sought.
use Prim.Native.Nat.{suc, ◌-◌}
use Rattle.level.proofs.Parts.{Passing}
use Rattle.level.proofs.layers.Layers.pass_over.Given as goal

abbrev pub invariant-loop-t : goal.invariant-loop-t
invariant-loop-t l = Passing l.self.words.now l.self.depth l.set.0 l.place l.shows l.step l.from l.t

abbrev pub decreases-loop-t : goal.decreases-loop-t
decreases-loop-t l = suc l.self.depth - l.t
