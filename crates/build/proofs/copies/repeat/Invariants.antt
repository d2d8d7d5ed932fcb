-- All words written so far are written again, then those that are left.
use Prim.Native.Nat.{◌-◌}
use Rattle.build.proofs.Repeats.{Again}
use Rattle.build.proofs.copies.repeat.Given as goal

abbrev pub invariant-loop-done : goal.invariant-loop-done
invariant-loop-done l = Again l.to l.stride l.count l.initial.words l.done l.words

abbrev pub decreases-loop-done : goal.decreases-loop-done
decreases-loop-done l = l.count - l.done
