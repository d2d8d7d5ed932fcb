-- `file::joined_sets` meets its contract: the loop joins one set after the other.
use Prim.Native.Nat.{◌+◌, ◌*◌}
use Rattle.graph.specs.Format.{set_bytes, set_at}
use Rattle.words.proofs.Folds.{Joins}
use Rattle.graph.proofs.file.joined_sets.Given as goal

abbrev pub invariant-loop-i : goal.invariant-loop-i
invariant-loop-i l = Joins (λ k. set_at l.file (l.at + set_bytes * k)) l.count l.i l.joined
