-- The loop is the union of the definition.
use lib.ListN.{length}
use Rattle.rules.specs.Over.{keep}
use Rattle.rules.specs.Word.{single}
use Rattle.together.specs.Interference.{interfere_in}
use Rattle.words.proofs.Folds.{Joins}
use Rattle.together.proofs.interference.interferers_of.Given as goal

abbrev pub invariant-loop-j : goal.invariant-loop-j
invariant-loop-j l =
    Joins (λ w'. keep (interfere_in l.sets.needs.now l.sets.adds.now l.sets.dels.now l.sets.owners.now l.i w') (single w')) (length l.sets.needs.now) l.j l.joined
