-- The loop writes one step after the other and adds up the looks, until nothing changes or the depth is reached.
use Rattle.build.proofs.Builds.{Stepping}
use Rattle.build.proofs.steps.steps_until.Given as goal

abbrev pub invariant-loop-k : goal.invariant-loop-k
invariant-loop-k l =
    let e = l.effects in
    let f = l.frame in
    Stepping f.props f.width f.span l.depth f.all e.needs.now e.adds.now e.dels.now e.adders.now e.interferers.now l.initial.layer.labels l.initial.layer.t l.initial.words
    l.k l.at l.looked l.words l.layer.labels l.layer.t
