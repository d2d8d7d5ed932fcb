-- The loop writes one word after the other; what lies ahead is not changed yet.
use Prim.Native.Nat.{◌+◌}
use lib.ListN.{get_or}
use Rattle.words.specs.Rows.{part_length}
use Rattle.words.proofs.Writes.{Lists}
use Rattle.words.proofs.parts.fold_part.Given as goal

abbrev pub invariant-loop-k : goal.invariant-loop-k
invariant-loop-k g l = Lists (λ k'. g.F.Fold.op (get_or l.initial.part k' 0) (get_or l.table (l.at + k') 0)) 0 part_length l.initial.part l.k l.part
