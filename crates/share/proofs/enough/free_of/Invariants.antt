-- The loop takes one goal above p after the other, and is left once all that are left fall short.
use Rattle.rules.specs.Layer.{mutex_in}
use Rattle.share.proofs.Holders.{Less}
use Rattle.share.proofs.enough.free_of.Given as goal

abbrev pub invariant-loop-q : goal.invariant-loop-q
invariant-loop-q l = Less (mutex_in l.n l.layer l.p) l.n l.fn.above l.initial.free.0 l.q-iterator.0 l.free.0
