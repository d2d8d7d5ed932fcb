-- The loop writes one word after the other.
use lib.ListN.{length, get_or}
use Rattle.words.proofs.Writes.{Lists}
use Rattle.words.proofs.turned.widen.Given as goal

abbrev pub invariant-loop-p : goal.invariant-loop-p
invariant-loop-p l = Lists (λ p'. get_or l.rows p' 0) 0 (length l.initial.row) l.initial.row l.p l.row
