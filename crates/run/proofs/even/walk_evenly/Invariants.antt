-- Each step that is made leads on; at any other the word stays as it was.
use Rattle.run.specs.Even.{GoesOn}
use Rattle.run.proofs.Evens.{walked}
use Rattle.run.proofs.even.walk_evenly.Given as goal

abbrev pub invariant-loop-i : goal.invariant-loop-i
invariant-loop-i l =
    GoesOn l.evens.needs.now l.evens.owned.now l.evens.when.now l.evens.goes.now l.list (walked l.initial.course l.initial.i l.initial.idle) (walked l.course l.i l.idle)
