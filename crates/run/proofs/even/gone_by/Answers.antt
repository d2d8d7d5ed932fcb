-- An effect that fires in every state is the one whose antecedent no state lacks.
use mathlib.Core.Path.{sym}
use Rattle.rules.proofs.Tests.{same_of, same_at, fails_of}
use Rattle.rules.proofs.Overs.{keep_held, keep_failed}
use Rattle.run.specs.Even.{everywhere}
use Rattle.run.proofs.even.gone_by.Goals as goal

pub returns-then-course-when-eq0 : goal.returns-then-course-when-eq0
unfolding everywhere
returns-then-course-when-eq0 c = sym (keep_held _ (same_of c.if-course-when-eq0.true))

pub returns : goal.returns
unfolding everywhere
returns c = sym (keep_failed _ _ (fails_of (λ t. c.if-course-when-eq0.false (same_at t))))
