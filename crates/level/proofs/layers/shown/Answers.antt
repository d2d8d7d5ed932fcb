-- Labels lie below n, mutex words from n on.
use Rattle.rules.specs.Test.{choose}
use Rattle.rules.proofs.Tests.{below_of, below_not}
use Rattle.level.specs.Meets.{shown_at}
use Rattle.level.proofs.layers.shown.Goals as goal

pub returns-then-place-n : goal.returns-then-place-n
unfolding shown_at choose
returns-then-place-n c = simp (below_of c.if-place-n.true)

pub returns : goal.returns
unfolding shown_at choose
returns c = simp (below_not c.if-place-n.false)
