-- What is left of the descent, with the words now, is the whole descent, at each head of the loop.
use Rattle.plan.proofs.Descents.{Falling}
use Rattle.plan.proofs.descent.descend.Given as goal

abbrev pub invariant-loop-t : goal.invariant-loop-t
invariant-loop-t l = Falling l.effects.needs.now l.effects.owners.now l.effects.adders.now l.words l.initial.needed l.initial.plan l.needed l.plan l.live l.t
