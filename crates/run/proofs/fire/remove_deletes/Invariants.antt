-- The loop removes the deletes of one effect after the other.
use Rattle.run.proofs.Touches.{Touches, without_twice, without_none}
use Rattle.graph.specs.Format.{actions_of}
use Rattle.rules.specs.Word.{without}
use Rattle.run.proofs.fire.remove_deletes.Given as goal

abbrev pub invariant-loop-e : goal.invariant-loop-e
invariant-loop-e l =
    Touches (λ x y. without x y) without_twice without_none l.file.counts.effects (actions_of l.file.bytes.now l.file.counts).del l.by l.fired l.initial.labels l.e-iterator.0 l.labels
