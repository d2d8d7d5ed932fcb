-- The loop writes the set of one state after the other.
use lib.ListN.{length}
use Rattle.words.proofs.Writes.{Lists}
use Rattle.run.specs.Fire.{set_in}
use Rattle.run.proofs.fire.lay_labels.Given as goal

abbrev pub invariant-loop-s : goal.invariant-loop-s
invariant-loop-s l = Lists (set_in l.labels) 0 (length l.initial.out) l.initial.out l.s l.out
