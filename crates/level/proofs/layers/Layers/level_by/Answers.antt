-- The two searches decide the answer as the rule does.
use mathlib.Core.Path.{sym, ◌∙◌}
use borrow.Author.Rules.{rules}
use Rattle.rules.proofs.Tests.{is_fails, below_at, below_fails}
use Rattle.rules.proofs.Levels.{level_by_lem, never_by, not_by}
use Rattle.level.proofs.layers.Layers.level_by.Goals as goal

pub returns-then-t-self : goal.returns-then-t-self
returns-then-t-self c = sym (level_by_lem _ _ _ _ c.if-t-self.true)

pub returns-then-rests : goal.returns-then-rests
returns-then-rests c = sym (never_by _ _ _ _ (search rules) (below_at (sym c.rests.ensures ∙ c.if-rests.true)))

pub returns : goal.returns
returns c = sym (not_by _ _ _ _ (search rules) (below_fails (is_fails (sym c.rests.ensures ∙ c.if-rests.false))))
