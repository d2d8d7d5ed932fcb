use Prim.Native.Nat.{ℕ, ◌+◌}
use mathlib.Core.Path.{◌≡◌, sym, ap, ◌∙◌}
use native.Mathlib.Omega.{arith}
use Rattle.run.specs.Course.{still}
use Rattle.run.proofs.Walks.{walk_none, idle_fits, walk_more, walk_off, tried_made, tried_off}
use Rattle.run.proofs.step.walk.Goals as goal
use Rattle.run.proofs.step.walk.Goals.{After-counted-idle}

-- the idle steps before a step, from where it was tried
idle_now : (c : After-counted-idle)
    → let l = c.loop-i in c.counted-idle.result ≡ l.idle + still l.before l.left
idle_now c = c.counted-idle.ensures ∙ ap (λ (x : ℕ). c.loop-i.idle + x) c.change_of.ensures

pub loop-i-init : goal.loop-i-init
loop-i-init c = walk_none c.requires

pub counted-idle-requires : goal.counted-idle-requires
counted-idle-requires c = omega (arith, c.change_of.ensures, idle_fits c.loop-i.invariant)

pub returns-in_default : goal.returns-in_default
returns-in_default c =
    walk_off c.loop-i.invariant c.byte-a.result c.byte-a.ensures.0
    (tried_off _ _ _ _ c.try_step-did.ensures c.in_default.not-Ok) (idle_now (goal.at.returns-in_default c).After-counted-idle)

pub loop-i-preserved : goal.loop-i-preserved
loop-i-preserved c =
    let (free, kept, next) = tried_made _ _ _ _ (sym c.try_step-did.ensures ∙ c.in-Ok.is) in
    walk_more c.loop-i.invariant c.byte-a.result c.byte-a.ensures.0 c.loop-i-test.true free kept next
    (idle_now (goal.at.loop-i-preserved c).After-counted-idle)

pub counted-requires : goal.counted-requires
counted-requires c = omega (arith, c.change_of-2.ensures, idle_fits c.loop-i.invariant)
