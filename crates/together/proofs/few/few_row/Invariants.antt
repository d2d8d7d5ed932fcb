-- The loop takes one effect after the other.
use Rattle.together.proofs.FewLoops.{Fews}
use Rattle.together.proofs.few.few_row.Given as goal

abbrev pub invariant-loop-j : goal.invariant-loop-j
invariant-loop-j l = Fews l.i l.fn.set l.effects.needs.now l.effects.adds.now l.live l.row l.initial.mates l.initial.beside l.j-iterator.0 l.mates l.beside
