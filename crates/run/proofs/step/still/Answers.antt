-- Not less is all.
use mathlib.Core.Bool.{Bool}
use mathlib.Core.Path.{ap}
use Rattle.std.proofs.lemmas.Bool.{le-leb, leb-true}
use Rattle.rules.specs.Over.{keep}
use Rattle.rules.proofs.Tests.{test_eq, below_not, below_fails, is_fails}
use Rattle.run.specs.Course as C
use Rattle.run.proofs.step.still.Goals as goal

pub returns : goal.returns
unfolding C.still
returns c = ap (λ (b : Bool). keep b 1) (test_eq
    (λ t. is_fails (below_not (leb-true c.args.course c.args.left t)))
    (λ t. le-leb c.args.course c.args.left (below_fails t)))
