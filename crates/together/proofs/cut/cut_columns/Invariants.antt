-- The loop cuts one effect's deletes out after the other.
use Rattle.together.proofs.Cuts.{CutColumns}
use Rattle.together.proofs.cut.cut_columns.Given as goal

abbrev pub invariant-loop-i : goal.invariant-loop-i
invariant-loop-i l = CutColumns l.dels l.initial.turned l.i l.turned
