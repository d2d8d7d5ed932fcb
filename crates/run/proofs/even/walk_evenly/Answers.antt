use Prim.Native.Nat.{ℕ, ◌+◌}
use mathlib.Core.Path.{ap, subst, ◌∙◌}
use native.Mathlib.Omega.{arith}
use lib.ListN.{get_or}
use Rattle.run.specs.Even.{TriedEvenly}
use Rattle.run.proofs.Walks.{still_le}
use Rattle.run.proofs.Evens.{go_on_more, go_on_done}
use Rattle.run.proofs.even.walk_evenly.Goals as goal
use Rattle.run.proofs.even.walk_evenly.Goals.{After-byte-a}

pub counted-idle-requires : goal.counted-idle-requires
counted-idle-requires c =
    let m = c.loop-i.invariant in
    omega (arith, c.loop-i-test.true, m.few, c.change_of.ensures, still_le c.loop-i.course c.in-Ok.made.left)

pub loop-i-preserved : goal.loop-i-preserved
loop-i-preserved c =
    let l = c.loop-i in
    let a = c.args in
    let x = c.byte-a.result in
    go_on_more l.invariant c.requires.0 c.in-Ok.made c.loop-i-test.true c.byte-a.ensures.0
    (subst (TriedEvenly a.evens.now.when.now a.evens.now.goes.now (get_or a.evens.now.owned.now x 0) (get_or a.evens.now.needs.now x 0) l.course) c.in-Ok.is
    c.step_evenly-did.ensures)
    (c.counted-idle.ensures ∙ ap (λ (k : ℕ). l.idle + k) c.change_of.ensures)

pub returns : goal.returns
returns c = go_on_done c.loop-i.invariant c.requires.0 c.loop-i-test.false
