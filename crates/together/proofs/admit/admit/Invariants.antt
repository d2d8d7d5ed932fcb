-- The loop admits one effect after the other.
use lib.ListN.{length, get_or}
use Rattle.words.proofs.Cells.{Rows}
use Rattle.words.proofs.Writes.{Lists}
use Rattle.together.specs.Cells.{label_for, row_for}
use Rattle.together.proofs.admit.admit.Given as goal

abbrev pub invariant-loop-i : goal.invariant-loop-i
invariant-loop-i l =
    Lists (λ i'. label_for l.all l.layer.t (get_or l.effects.needs.now i' 0)) 0 (length l.effects.needs.now) l.initial.live l.i l.live × Rows (λ i'. row_for l.all l.layer.labels l.layer.t (get_or l.effects.needs.now i' 0)) l.width l.i l.r
