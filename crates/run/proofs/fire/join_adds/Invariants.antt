-- The loop joins the adds of one effect after the other.
use Rattle.run.proofs.Touches.{Touches, union_twice}
use lib.Bits.{or_zero_r}
use Rattle.graph.specs.Format.{actions_of}
use Rattle.rules.specs.Word.{union}
use Rattle.run.proofs.fire.join_adds.Given as goal

abbrev pub invariant-loop-e : goal.invariant-loop-e
invariant-loop-e l =
    Touches (λ x y. union x y) union_twice or_zero_r l.file.counts.effects (actions_of l.file.bytes.now l.file.counts).add l.by l.fired l.initial.labels l.e-iterator.0 l.labels
