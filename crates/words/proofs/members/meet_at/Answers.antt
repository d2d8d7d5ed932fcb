use mathlib.Core.Path.{refl, ap}
use Prim.Native.Nat.{ℕ}
use native.Mathlib.Omega.{arith}
use lib.ListN.{length, get_or}
use Rattle.words.proofs.MemberLoops.{shares_none, shares_more, shares_done, lowest_lt}
use Rattle.words.proofs.members.meet_at.Goals as goal

pub loop-i-init : goal.loop-i-init
loop-i-init c = rw c.into_iter-i-iterator.ensures.into_iter_gives (shares_none c.requires.1)

pub bounds-row-i : goal.bounds-row-i
bounds-row-i c =
    let t = c.in-Some.ensures.steps in
    omega (arith, t.is, lowest_lt (length c.args.row.now) _ c.requires.0 c.loop-i.invariant.inside t.some)

pub loop-i-preserved : goal.loop-i-preserved
loop-i-preserved c =
    let t = c.in-Some.ensures.steps in
    shares_more c.loop-i.invariant c.requires.0 t.some (ap (λ (i : ℕ). get_or c.args.row.now i 0) t.is) refl t.others

pub returns : goal.returns
returns c = shares_done c.loop-i.invariant (omega (arith, c.in-None.ensures.steps.0))
