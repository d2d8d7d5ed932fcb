-- The loop takes one member after the other.
use lib.ListN.{length, get_or}
use Rattle.words.proofs.MemberLoops.{Shares}
use Rattle.words.proofs.members.meet_at.Given as goal

abbrev pub invariant-loop-i : goal.invariant-loop-i
invariant-loop-i l = Shares (λ i. get_or l.row i 0) l.all (length l.row) l.set l.i-iterator.0 l.met
