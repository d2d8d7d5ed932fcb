use borrow.Author.Rules.{rules}
use native.Mathlib.Omega.{arith}
use Rattle.extract.proofs.MoveLoops.{mask_none, mask_more, moving_next, moving_done, next_under, next_lt}
use Rattle.extract.proofs.close.move_mask.Goals as goal

pub loop-s-init : goal.loop-s-init
loop-s-init c = rw c.into_iter-s-iterator.ensures.into_iter_gives (mask_none (search rules))

pub overflow_sub-s : goal.overflow_sub-s
overflow_sub-s c = omega (arith, c.in-Some.ensures.steps.is, next_under c.loop-s.invariant.ranked c.in-Some.ensures.steps.some)

pub moving_at-mask-requires : goal.moving_at-mask-requires
moving_at-mask-requires c = (omega (arith, c.in-Some.ensures.steps.is, next_lt c.loop-s.invariant.ranked c.in-Some.ensures.steps.some), omega arith, search rules)

pub overflow_add-under : goal.overflow_add-under
overflow_add-under c = let r = c.loop-s.invariant.ranked in omega (arith, next_under r c.in-Some.ensures.steps.some, next_lt r c.in-Some.ensures.steps.some)

pub loop-s-preserved : goal.loop-s-preserved
loop-s-preserved c =
    let l = c.loop-s.invariant in
    mask_more l c.in-Some.ensures.steps.some (moving_next _ l.ranked c.in-Some.ensures.steps.some c.in-Some.ensures.steps.is c.moving_at-mask.ensures)
    c.in-Some.ensures.steps.others

pub returns : goal.returns
returns c = moving_done _ c.loop-s.invariant (omega (arith, c.in-None.ensures.steps.0))
