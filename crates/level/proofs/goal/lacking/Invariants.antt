-- The loop takes one goal after the other, and is left at the first whose label lacks a state.
use Rattle.level.specs.Meets.{label_meets}
use Rattle.level.proofs.Goals.{Left}
use Rattle.level.proofs.goal.lacking.Given as goal

abbrev pub invariant-loop-p : goal.invariant-loop-p
invariant-loop-p l = Left (label_meets l.layer l.set.0) l.n l.fn.goal.0 l.p-iterator.0
