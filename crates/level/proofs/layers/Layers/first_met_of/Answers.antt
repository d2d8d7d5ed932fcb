use mathlib.Core.Path.{sym, ◌∙◌}
use Prim.Native.Nat.{◌<◌}
use native.Mathlib.Omega.{arith}
use Rattle.rules.specs.Level.{first_met}
use Rattle.rules.specs.Layer.{size}
use Rattle.level.proofs.Searches.{sought_none, sought_over, sought_found, sought_done}
use Rattle.level.proofs.layers.Layers.first_met_of.Goals as goal
use Rattle.level.proofs.layers.Layers.first_met_of.Goals.{After-shown}

-- the place that was found lies in the layer
inside : (c : After-shown) → c.failing_at-place.result < size c.args.self.now.shape.props
inside c = omega (arith, c.layer_size.ensures.0)

pub loop-t-init : goal.loop-t-init
loop-t-init c = sought_none

pub returns-then-layer_size-place : goal.returns-then-layer_size-place
unfolding first_met
returns-then-layer_size-place c =
    sought_found c.loop-t.invariant (omega arith)
    (c.failing_at-place.ensures.met (omega (arith, c.layer_size.ensures.0)))

pub pass_over-t-requires : goal.pass_over-t-requires
pass_over-t-requires c = (omega arith, inside (goal.at.pass_over-t-requires c).After-shown)

pub loop-t-smaller : goal.loop-t-smaller
loop-t-smaller c = omega (arith, c.pass_over-t.ensures.rises)

pub loop-t-preserved : goal.loop-t-preserved
loop-t-preserved c =
    let judged = c.failing_at-place.ensures in
    let passed = c.pass_over-t.ensures in
    sought_over c.loop-t.invariant (judged.not (inside (goal.at.loop-t-preserved c).After-shown)) passed.rises passed.within
    (λ k g l m. passed.each k g l (judged.shows (inside (goal.at.loop-t-preserved c).After-shown) _ m ∙ sym c.shown.ensures))

pub returns : goal.returns
unfolding first_met
returns c = sought_done c.loop-t.invariant (omega arith)
