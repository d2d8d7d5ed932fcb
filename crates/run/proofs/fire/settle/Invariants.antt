-- The loop writes one label after the other over what it was.
use lib.ListN.{get_or}
use Rattle.words.specs.Rows.{row_length}
use Rattle.words.proofs.Writes.{Lists}
use Rattle.run.specs.Fire.{settled_label}
use Rattle.run.proofs.fire.settle.Given as goal

abbrev pub invariant-loop-p : goal.invariant-loop-p
invariant-loop-p l = Lists (λ i. settled_label l.set.0 l.course i (get_or l.initial.labels i 0)) 0 row_length l.initial.labels l.p l.labels
