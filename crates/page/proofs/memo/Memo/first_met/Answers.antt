use mathlib.Core.Path.{refl, sym, subst, ◌∙◌}
use Prim.Native.Nat.{◌<◌, ◌≤◌}
use native.Mathlib.Omega.{arith}
use Rattle.rules.specs.Level.{first_met}
use Rattle.rules.specs.Layer.{size}
use Rattle.level.specs.declared.layers.Layers.{Layers}
use Rattle.level.proofs.Searches.{sought_over, sought_found, sought_done}
use Rattle.page.proofs.Memos.{start_sought, passed_of}
use Rattle.page.proofs.memo.Memo.first_met.Goals as goal
use Rattle.page.proofs.memo.Memo.first_met.Goals.{Else-layer_size-place}

-- the place that was found lies in the layer
inside : (c : Else-layer_size-place) → c.failing_at-place.result < size c.args.self.now.layers.shape.props
inside c = omega (arith, c.layer_size.ensures.0)

pub loop-t-init : goal.loop-t-init
loop-t-init c = (start_sought c.args.self.now.remembers.of_labels c.start-t.ensures, refl, refl)

pub returns-then-layer_size-place : goal.returns-then-layer_size-place
unfolding first_met
returns-then-layer_size-place c = (
  sought_found c.loop-t.invariant.0 (omega arith)
      (c.failing_at-place.ensures.met (omega (arith, c.layer_size.ensures.0))),
  c.loop-t.invariant.1,
  c.loop-t.invariant.2,
)

pub later-t-requires : goal.later-t-requires
later-t-requires c =
    let same = sym c.loop-t.invariant.1 in (
      subst (λ (l : Layers). c.failing_at-place.result < size l.shape.props) same (inside (goal.at.later-t-requires c).Else-layer_size-place),
      subst (λ (l : Layers). c.loop-t.t ≤ l.depth) same c.loop-t-test.true,
    )

pub loop-t-smaller : goal.loop-t-smaller
loop-t-smaller c = omega (arith, c.later-t.ensures.0.rises)

pub loop-t-preserved : goal.loop-t-preserved
loop-t-preserved c =
    let judged = c.failing_at-place.ensures in
    let passed = passed_of c.failing_at-place.result _ _ c.loop-t.invariant.1 c.loop-t.invariant.2 c.later-t.ensures.0 in (
      sought_over c.loop-t.invariant.0 (judged.not (inside (goal.at.loop-t-preserved c).Else-layer_size-place)) passed.rises passed.within
          (λ k g l m. passed.each k g l (judged.shows (inside (goal.at.loop-t-preserved c).Else-layer_size-place) _ m)),
      c.later-t.ensures.1 ∙ c.loop-t.invariant.1,
      c.later-t.ensures.2 ∙ c.loop-t.invariant.2,
    )

pub returns : goal.returns
unfolding first_met
returns c = (sought_done c.loop-t.invariant.0 (omega arith), c.loop-t.invariant.1, c.loop-t.invariant.2)
