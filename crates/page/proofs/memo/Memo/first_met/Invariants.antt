-- The loop is left at the first layer that meets the goal; at its end none does, from 0 to the depth. The layers that are passed over do not meet it.
use mathlib.Core.Path.{◌≡◌}
use Prim.Native.Nat.{suc, ◌-◌}
use Rattle.rules.specs.Level.{goal_met}
use Rattle.rules.specs.Layer.{props_in}
use Rattle.level.proofs.Searches.{Sought}
use Rattle.page.proofs.memo.Memo.first_met.Given as goal

abbrev pub invariant-loop-t : goal.invariant-loop-t
invariant-loop-t l =
    Sought (λ u. goal_met l.layers.shape.props (props_in l.layers.shape l.layers.words.now u) l.set.0 l.goal.0) (suc l.layers.depth) l.t
    × (l.self.layers ≡ l.layers) × (l.self.set ≡ l.set)

abbrev pub decreases-loop-t : goal.decreases-loop-t
decreases-loop-t l = suc l.layers.depth - l.t
