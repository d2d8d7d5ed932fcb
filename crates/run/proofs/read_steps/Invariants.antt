-- The loop stores the three words of one action after the other.
use Rattle.run.proofs.Walks.{Told}
use Rattle.run.proofs.read_steps.Given as goal

abbrev pub invariant-loop-a : goal.invariant-loop-a
invariant-loop-a l = Told l.file.bytes.now l.file.counts l.initial.needs l.initial.leave l.initial.bring l.needs l.leave l.bring l.a
