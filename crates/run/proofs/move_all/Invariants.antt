-- The loop moves one set after the other.
use lib.ListN.{length, get_or}
use Rattle.rules.specs.Test.{choose}
use Rattle.rules.specs.Word.{bit, first}
use Rattle.words.proofs.Writes.{Lists}
use Rattle.run.specs.Course.{came}
use Rattle.run.proofs.move_all.Given as goal

abbrev pub invariant-loop-x : goal.invariant-loop-x
invariant-loop-x l =
    Lists (λ k. choose (bit k (first (length l.initial.out))) (came l.course (get_or l.initial.out k 0)) (get_or l.initial.out k 0)) 0 (length l.initial.out) l.initial.out l.x-index l.out
