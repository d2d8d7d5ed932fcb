-- `Whole::joined_effects` meets its contract: the loop joins the sets of one effect after the other.
use Prim.Native.Nat.{◌+◌, ◌*◌}
use Rattle.rules.specs.Over.{join_over}
use Rattle.graph.specs.Format.{set_bytes, set_at, when_at}
use Rattle.words.proofs.Folds.{Joins}
use Rattle.graph.proofs.file.Whole.joined_effects.Given as goal

abbrev pub invariant-loop-e : goal.invariant-loop-e
invariant-loop-e l = Joins (λ k. join_over 3 (λ i. set_at l.self.bytes.now (when_at l.self.counts k + set_bytes * i))) l.self.counts.effects l.e l.joined
