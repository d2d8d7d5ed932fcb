-- `Whole::last_owner` meets its contract: no number that was read is larger.
use Prim.Native.Nat.{ℕ, ◌≤◌, ◌<◌}
use Rattle.graph.specs.Format.{actions_of}
use Rattle.graph.proofs.file.Whole.last_owner.Given as goal

abbrev pub invariant-loop-e : goal.invariant-loop-e
invariant-loop-e l = (l.e ≤ l.self.counts.effects) × ((k : ℕ) → k < l.e → (actions_of l.self.bytes.now l.self.counts).owner k ≤ l.last)
