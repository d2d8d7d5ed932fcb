use mathlib.Core.Path.{sym, ◌∙◌}
use native.Mathlib.Omega.{arith}
use Rattle.rules.specs.Level.{first_rest}
use Rattle.level.proofs.Parts.{rests_by}
use Rattle.level.proofs.Searches.{sought_none, sought_more, sought_found, sought_all}
use Rattle.level.proofs.layers.Layers.first_rest.Goals as goal

pub loop-first-init : goal.loop-first-init
loop-first-init c = sought_none

pub returns-then-rests_at : goal.returns-then-rests_at
unfolding first_rest
returns-then-rests_at c = sought_found c.loop-first.invariant c.loop-first-test.true (sym (rests_by _ _ _ c.layer_size-count.ensures.0 c.rests_at.ensures) ∙ c.if-rests_at.true)

pub loop-first-preserved : goal.loop-first-preserved
loop-first-preserved c = sought_more c.loop-first.invariant c.loop-first-test.true (sym (rests_by _ _ _ c.layer_size-count.ensures.0 c.rests_at.ensures) ∙ c.if-rests_at.false)

pub returns : goal.returns
unfolding first_rest
returns c = sought_all c.loop-first.invariant (omega arith)
