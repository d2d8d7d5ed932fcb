-- `greatest` meets its contract: the loop has the greatest of the numbers so far.
use Rattle.run.proofs.Sequences.{Most}
use Rattle.run.proofs.greatest.Given as goal

abbrev pub invariant-loop-a : goal.invariant-loop-a
invariant-loop-a l = Most l.list l.a-index l.most
