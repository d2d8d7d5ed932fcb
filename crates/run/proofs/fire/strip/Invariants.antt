-- The loop takes t away from the word of one member after the other.
use Rattle.run.proofs.Touches.{Changes}
use Rattle.rules.specs.Word.{common, first, without}
use lib.ListN.{length}
use Rattle.run.proofs.fire.strip.Given as goal

abbrev pub invariant-loop-q : goal.invariant-loop-q
invariant-loop-q l =
    Changes (λ j x. without x l.t) (length l.initial.row) (common (first (length l.initial.row)) l.fn.set.0) l.initial.row l.q-iterator.0 l.row
