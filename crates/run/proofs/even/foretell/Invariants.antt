-- The loop is left at the first effect of which the word does not tell where it fires.
use Rattle.run.proofs.Evens.{Foretelling}
use Rattle.run.proofs.even.foretell.Given as goal

abbrev pub invariant-loop-e : goal.invariant-loop-e
invariant-loop-e l = Foretelling l.evens.when.now l.evens.goes.now l.by l.course l.e-iterator.0 l.all
