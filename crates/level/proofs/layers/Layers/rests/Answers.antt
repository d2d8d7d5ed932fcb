use mathlib.Core.Path.{sym, ◌∙◌}
use native.Mathlib.Omega.{arith}
use borrow.Author.Rules.{rules}
use Rattle.rules.specs.Level.{first_rest}
use Rattle.level.proofs.Parts.{rests_by}
use Rattle.level.proofs.Searches.{cleared_none, cleared_more, cleared_found, cleared_done}
use Rattle.level.proofs.layers.Layers.rests.Goals as goal

pub loop-t-init : goal.loop-t-init
loop-t-init c = cleared_none

pub returns-then-rests_at : goal.returns-then-rests_at
unfolding first_rest
returns-then-rests_at c = cleared_found c.loop-t.invariant (search rules) (sym (rests_by _ _ _ c.layer_size-whole.ensures.0 c.rests_at.ensures) ∙ c.if-rests_at.true)

pub loop-t-preserved : goal.loop-t-preserved
loop-t-preserved c = cleared_more c.loop-t.invariant (search rules) (sym (rests_by _ _ _ c.layer_size-whole.ensures.0 c.rests_at.ensures) ∙ c.if-rests_at.false)

pub returns : goal.returns
unfolding first_rest
returns c = cleared_done c.loop-t.invariant (omega arith)
