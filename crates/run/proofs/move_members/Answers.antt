use Prim.Native.Nat.{◌<◌}
use native.Mathlib.Omega.{arith}
use lib.ListN.{length}
use Rattle.words.proofs.MemberLoops.{lowest_lt}
use Rattle.run.specs.Course.{sets_of}
use Rattle.run.proofs.Touches.{changes_none, changes_more, changes_done}
use Rattle.run.proofs.move_members.Goals as goal
use Rattle.run.proofs.move_members.Goals.{In-Some}

pub loop-s-init : goal.loop-s-init
loop-s-init c =
    let p = c.requires in
    rw c.into_iter-s-iterator.ensures.into_iter_gives (changes_none p.1 (omega arith) p.0)

-- the next member is the number of a set
named : (c : In-Some) → c.in-Some.s < length c.loop-s.out
named c =
    let t = c.in-Some.ensures.steps in let m = c.loop-s.invariant in
    omega (arith, t.is, lowest_lt _ c.loop-s.s-iterator.0 m.few m.inside t.some, m.long)

pub loop-s-preserved : goal.loop-s-preserved
loop-s-preserved c =
    let t = c.in-Some.ensures.steps in
    changes_more c.loop-s.invariant t.some t.is c.came.ensures t.others

pub returns : goal.returns
unfolding sets_of
returns c = changes_done c.loop-s.invariant (omega (arith, c.in-None.ensures.steps.0))

pub offset_bounds-out-s : goal.offset_bounds-out-s
offset_bounds-out-s c = omega (arith, named (goal.at.offset_bounds-out-s c).In-Some)

pub bounds-out-s : goal.bounds-out-s
bounds-out-s c = omega (arith, named (goal.at.bounds-out-s c).In-Some)

pub offset_bounds-out-s-in-loop-s : goal.offset_bounds-out-s-in-loop-s
offset_bounds-out-s-in-loop-s c = omega (arith, named (goal.at.offset_bounds-out-s-in-loop-s c).In-Some)

pub bounds-out-s-in-loop-s : goal.bounds-out-s-in-loop-s
bounds-out-s-in-loop-s c = omega (arith, named (goal.at.bounds-out-s-in-loop-s c).In-Some)

pub shape_of-out : goal.shape_of-out
shape_of-out c = c.loop-s.invariant.long
