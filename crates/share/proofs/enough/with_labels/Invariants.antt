-- The loop takes one goal after the other, and is left once all that are left fall short.
use Rattle.rules.specs.Layer.{label_in}
use Rattle.words.proofs.MemberLoops.{Shares}
use Rattle.share.proofs.enough.with_labels.Given as goal

abbrev pub invariant-loop-p : goal.invariant-loop-p
invariant-loop-p l = Shares (label_in l.layer) l.initial.held.0 l.n l.fn.goal.0 l.p-iterator.0 l.held.0
