-- The loop takes one goal after the other, each with those above it, and is left once all that are left fall short.
use Rattle.share.proofs.Holders.{Apart}
use Rattle.share.proofs.enough.free_in.Given as goal

abbrev pub invariant-loop-p : goal.invariant-loop-p
invariant-loop-p l = Apart l.n l.layer l.fn.goal.0 l.initial.free.0 l.left.0 l.free.0

abbrev pub decreases-loop-p : goal.decreases-loop-p
decreases-loop-p l = l.left.0
