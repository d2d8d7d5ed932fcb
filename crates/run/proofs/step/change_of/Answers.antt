-- A step that leaves all of the word is the one that changes none.
use mathlib.Core.Path.{sym, ◌∙◌}
use Rattle.rules.proofs.Overs.{keep_held, keep_failed}
use Rattle.rules.proofs.Tests.{is_fails}
use Rattle.run.specs.Course as C
use Rattle.run.proofs.step.change_of.Goals as goal

pub returns-then-still : goal.returns-then-still
unfolding C.idle_by
returns-then-still c = sym (keep_held 1 c.if-still.true) ∙ c.still.ensures

pub returns : goal.returns
unfolding C.idle_by
returns c = sym (keep_failed _ 1 (is_fails c.if-still.false)) ∙ c.still.ensures
