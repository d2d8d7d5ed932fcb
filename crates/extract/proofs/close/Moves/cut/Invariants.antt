-- The loop cuts one piece after the other; what is left is cut after it.
use Prim.Native.Nat.{◌-◌}
use Rattle.extract.proofs.Cuts.{Front}
use Rattle.extract.proofs.close.Moves.cut.Given as goal

abbrev pub invariant-loop-at : goal.invariant-loop-at
invariant-loop-at l = Front l.self.set l.words l.count l.initial.out l.at l.out

abbrev pub decreases-loop-at : goal.decreases-loop-at
decreases-loop-at l = l.count - l.at
