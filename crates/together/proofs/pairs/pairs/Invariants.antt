-- The loop makes one row after the other.
use Prim.Native.Nat.{◌≤◌}
use Rattle.words.specs.Rows.{row_length}
use Rattle.words.proofs.Cells.{Rows}
use Rattle.together.specs.Cells.{with_effect}
use Rattle.together.proofs.pairs.pairs.Given as goal

abbrev pub invariant-loop-i : goal.invariant-loop-i
invariant-loop-i l = (l.span ≤ row_length) × Rows (with_effect l.effects.needs.now l.effects.interferers.now l.live l.turned) l.span l.i l.mates
