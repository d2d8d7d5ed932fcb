-- The loop joins what differs; at its end nothing does exactly when all words were the same.
use lib.ListN.{length, get_or}
use Rattle.words.proofs.Compares.{Compared}
use Rattle.words.proofs.equal.same_words.Given as goal

abbrev pub invariant-loop-i : goal.invariant-loop-i
invariant-loop-i l = Compared (λ k. get_or l.one k 0) (λ k. get_or l.other k 0) (length l.one) l.i l.differ
