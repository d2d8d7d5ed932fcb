-- The search for the rest decides the entry as the rule does.
use mathlib.Core.Path.{sym, ◌∙◌}
use Rattle.page.proofs.Entries.{never_is, not_by_depth_is}
use Rattle.page.proofs.memo.Memo.without_level.Goals as goal

pub returns-then-rests : goal.returns-then-rests
returns-then-rests c = never_is _ _ _ (sym c.rests-rests.ensures ∙ c.if-rests.true)

pub returns : goal.returns
returns c = not_by_depth_is _ _ _ (sym c.rests-rests.ensures ∙ c.if-rests.false)
