use Prim.Native.Nat.{◌+◌, ◌-◌}
use native.Mathlib.Omega.{arith}
use Rattle.level.proofs.Parts.{fewer}
use Rattle.plan.proofs.Descents.{fall_on, fall_off, fall_whole, fall_stuck, room_front}
use Rattle.plan.proofs.descent.descend.Goals as goal

pub fall-answer-requires : goal.fall-answer-requires
fall-answer-requires c = let l = c.loop-t in (
  fewer l.invariant.room (l.t - 1 + 1) (omega (arith, c.loop-t-test.true, l.invariant.inside)),
  l.invariant.wide,
  l.invariant.live_in,
)

pub returns-in_default : goal.returns-in_default
returns-in_default c =
    fall_off c.loop-t.invariant (c.loop-t.t - 1) (omega (arith, c.loop-t-test.true)) c.fall-answer.ensures c.in_default.is

pub loop-t-preserved : goal.loop-t-preserved
loop-t-preserved c =
    fall_on c.loop-t.invariant (c.loop-t.t - 1) (omega (arith, c.loop-t-test.true)) _ c.fall-answer.ensures c.in-Some.is c.fall-answer.auto.needed

pub grounded-requires : goal.grounded-requires
grounded-requires c = let l = c.loop-t in room_front l.invariant.wide l.invariant.room

pub returns-then-grounded : goal.returns-then-grounded
returns-then-grounded c = fall_whole c.loop-t.invariant c.loop-t-test.false _ c.grounded.ensures c.if-grounded.true

pub returns : goal.returns
returns c = fall_stuck c.loop-t.invariant c.loop-t-test.false _ c.grounded.ensures c.if-grounded.false
