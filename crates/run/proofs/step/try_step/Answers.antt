-- The word tells whether the precondition holds.
use mathlib.Core.Path.{sym}
use Rattle.rules.proofs.Tests.{choose_held, choose_failed, same_of, same_at, fails_of}
use Rattle.run.specs.Course as C
use Rattle.run.proofs.step.try_step.Goals as goal

pub returns-then-course-need-ne0 : goal.returns-then-course-need-ne0
unfolding C.tried_on
returns-then-course-need-ne0 c = sym (choose_failed _ _ (fails_of (λ t. c.if-course-need-ne0.true (same_at t))))

pub returns : goal.returns
unfolding C.tried_on C.further
returns c = sym (choose_held _ (same_of c.if-course-need-ne0.false))
