-- A state that has not this much to go stays; one that has stands at its place.
use borrow.Author.Rules.{rules}
use native.Mathlib.Omega.{arith}
use Rattle.extract.proofs.MoveLoops.{moves_not, moves_now, shift_some, left_le}
use Rattle.extract.proofs.close.moving_at.Goals as goal

pub returns-then-gap-i-ne1 : goal.returns-then-gap-i-ne1
returns-then-gap-i-ne1 c = moves_not _ _ _ c.if-gap-i-ne1.true

pub nonzero_rem-gap-2 : goal.nonzero_rem-gap-2
nonzero_rem-gap-2 c = omega (arith, shift_some c.args.i (search rules))

pub overflow_sub-s : goal.overflow_sub-s
overflow_sub-s c = left_le c.args.s c.args.gap c.args.i (search rules) (search rules)

pub returns : goal.returns
returns c = moves_now _ _ _ _ c.if-gap-i-ne1.false (search rules) c.single.ensures
