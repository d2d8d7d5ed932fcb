-- The loop writes one label after the other.
use Rattle.words.proofs.Writes.{Lists}
use Rattle.scans.specs.Ends.{own, Owned}
use Rattle.scans.proofs.new_labels.Given as goal

abbrev pub invariant-loop-p : goal.invariant-loop-p
invariant-loop-p l =
    Owned l.p l.spare l.initial.t l.t l.fresh × Lists (own l.spare l.initial.t) 0 l.n l.initial.labels l.p l.labels × Lists (own l.spare l.initial.t) 0 l.n l.initial.words l.p l.words
