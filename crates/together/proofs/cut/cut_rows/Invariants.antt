-- The loop cuts one effect's deletes out after the other.
use Rattle.together.proofs.Cuts.{CutRows}
use Rattle.together.proofs.cut.cut_rows.Given as goal

abbrev pub invariant-loop-i : goal.invariant-loop-i
invariant-loop-i l = CutRows l.dels l.initial.r l.i l.r
