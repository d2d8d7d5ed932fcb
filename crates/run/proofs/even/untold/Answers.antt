-- Where no state lacks any of the antecedent it is told; else the other half of the word is asked.
use Rattle.rules.specs.Test.{same}
use Rattle.run.specs.Even.{above}
use Rattle.run.proofs.Evens.{told_all, told_half}
use Rattle.run.proofs.even.untold.Goals as goal

pub returns-then-course-when-eq0 : goal.returns-then-course-when-eq0
returns-then-course-when-eq0 c = let a = c.args in told_all a.course a.when c.if-course-when-eq0.true

pub returns : goal.returns
unfolding above same
returns c = let a = c.args in told_half a.course a.when c.if-course-when-eq0.false
