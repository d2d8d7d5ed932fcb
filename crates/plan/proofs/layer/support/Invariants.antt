-- What is left of the layer, with the search now, is the whole layer, at each head of the two loops.
use Rattle.plan.proofs.Supports.{Laying, Seeking}
use Rattle.plan.proofs.layer.support.Given as goal

abbrev pub invariant-loop-e : goal.invariant-loop-e
invariant-loop-e l = Seeking l.wanted l.live l.labels l.effects.needs.now l.effects.owners.now l.effects.adders.now l.p l.under l.s l.e-iterator.0

abbrev pub invariant-props : goal.invariant-props
invariant-props l = Laying l.wanted l.live l.labels l.effects.needs.now l.effects.owners.now l.effects.adders.now l.under l.s l.p-iterator.0
