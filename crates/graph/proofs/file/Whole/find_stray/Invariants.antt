-- `Whole::find_stray` meets its contract: the effects before the first without an action have one.
use Prim.Native.Nat.{◌≤◌}
use Rattle.graph.proofs.Owners.{Owned}
use Rattle.graph.proofs.file.Whole.find_stray.Given as goal

abbrev pub invariant-loop-e : goal.invariant-loop-e
invariant-loop-e l = (l.e ≤ l.self.counts.effects) × Owned l.self.bytes.now l.self.counts l.e
