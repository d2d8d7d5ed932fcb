-- Each branch is one side of the test.
use mathlib.Core.Path.{sym, ◌∙◌}
use Rattle.rules.specs.Test.{◌or◌}
use Rattle.together.proofs.interference.either_clobbers.Goals as goal

pub returns-then-clobbers : goal.returns-then-clobbers
unfolding ◌or◌
returns-then-clobbers c = rw c.if-clobbers.true (simp (sym c.clobbers.ensures ∙ c.if-clobbers.true))

pub returns-else-clobbers : goal.returns-else-clobbers
unfolding ◌or◌
returns-else-clobbers c = simp (sym c.clobbers.ensures ∙ c.if-clobbers.false) c.clobbers-else-clobbers.ensures
