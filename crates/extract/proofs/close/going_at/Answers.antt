-- A state that has something else to go is left out.
use Rattle.rules.specs.Test.{choose}
use Rattle.rules.specs.Over.{keep}
use Rattle.rules.proofs.Tests.{same_of, same_not}
use mathlib.Core.Path.{◌∙◌}
use Rattle.extract.proofs.close.going_at.Goals as goal

pub returns-then-gap-far : goal.returns-then-gap-far
unfolding keep choose
returns-then-gap-far c = simp (same_not c.if-gap-far.true)

pub returns : goal.returns
unfolding keep choose
returns c = c.single.ensures ∙ simp (same_of c.if-gap-far.false)
