-- The loop takes one label after the other: the layer is one of theirs, or 0.
use mathlib.Core.Bool.{true}
use Rattle.level.proofs.Goals.{Left}
use Rattle.page.specs.Memo.{OfLabel}
use Rattle.page.proofs.memo.Memo.start.Given as goal

abbrev pub invariant-loop-p : goal.invariant-loop-p
invariant-loop-p l = Left (λ i. true) l.self.layers.shape.props l.fn.goal.0 l.p-iterator.0 × OfLabel l.self.firsts l.self.layers.shape.props l.fn.goal.0 l.t
