-- The loop is left at the first block that differs; at its end less than a block is left.
use Prim.Native.Nat.{◌-◌}
use lib.ListN.{length}
use Rattle.level.specs.Meets.{same_at}
use Rattle.level.proofs.Searches.{Held}
use Rattle.level.proofs.layers.same_from.Given as goal

abbrev pub invariant-loop-at : goal.invariant-loop-at
invariant-loop-at l = Held (same_at l.one l.other) (length l.one) l.at

abbrev pub decreases-loop-at : goal.decreases-loop-at
decreases-loop-at l = length l.one - l.at
