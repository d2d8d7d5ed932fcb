-- `possible::first_open` meets its contract: the sets before the first wrong one are right.
use Prim.Native.Nat.{◌≤◌}
use lib.ListN.{length}
use Rattle.within.specs.Rule.{set_of}
use Rattle.within.proofs.Possibles.{Enclosed}
use Rattle.within.proofs.possible.first_open.Given as goal

abbrev pub invariant-loop-s : goal.invariant-loop-s
invariant-loop-s l = (l.s ≤ length l.sure) × Enclosed l.props (length l.sure) (set_of l.sure) l.possible l.s
