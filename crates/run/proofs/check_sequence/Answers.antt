-- `check_sequence` meets its contract: the length is looked at first, then the numbers.
use Rattle.run.specs.Run.{sequence_rule}
use Rattle.rules.proofs.Tests.{choose_held, choose_failed, below_of, below_not, is_fails}
use mathlib.Core.Path.{sym, ◌∙◌}
use Rattle.run.proofs.check_sequence.Goals as goal

pub returns-then-list-gt-MAX_STEPS : goal.returns-then-list-gt-MAX_STEPS
unfolding sequence_rule
returns-then-list-gt-MAX_STEPS c = sym (choose_held _ (below_of c.if-list-gt-MAX_STEPS.true))

pub returns : goal.returns
unfolding sequence_rule
returns c = c.check_numbers.ensures ∙ sym (choose_failed _ _ (is_fails (below_not c.if-list-gt-MAX_STEPS.false)))
