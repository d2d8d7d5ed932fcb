-- Each return is one side of the test.
use Rattle.rules.specs.Test.{choose}
use Rattle.rules.proofs.Tests.{below_of, below_not}
use Rattle.graph.proofs.checks.check_room.Goals as goal

pub returns-then-have-wanted : goal.returns-then-have-wanted
unfolding choose
returns-then-have-wanted c = simp (below_of c.if-have-wanted.true)

pub returns : goal.returns
unfolding choose
returns c = simp (below_not c.if-have-wanted.false)
