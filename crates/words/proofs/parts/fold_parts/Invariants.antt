-- The loop takes one named row after the other.
use Prim.Native.Nat.{◌+◌}
use lib.ListN.{get_or}
use Rattle.words.specs.Rows.{part_length, cell}
use Rattle.words.proofs.FoldLaws.{Folded}
use Rattle.words.proofs.MemberLoops.{Lanes}
use Rattle.words.proofs.parts.fold_parts.Given as goal

abbrev pub invariant-loop-i : goal.invariant-loop-i
invariant-loop-i g l =
    Lanes (λ k left w. Folded g.F.Fold.over (λ i. cell l.table i (l.col + k)) (get_or l.initial.part k 0) l.fn.named left w) part_length l.i-iterator.0 l.part
