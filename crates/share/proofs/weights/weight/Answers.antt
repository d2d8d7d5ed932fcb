use Prim.Native.Nat.{◌≤◌}
use native.Mathlib.Omega.{arith}
use Rattle.rules.specs.Share as S
use Rattle.rules.proofs.Shares.{weight_le}
use Rattle.share.specs.Sums.{max_total}
use Rattle.share.proofs.Totals.{total_small, weighing_none, weighing_lt, weighing_fits, weighing_more, weighing_all}
use Rattle.share.proofs.weights.weight.Goals as goal
use Rattle.share.proofs.weights.weight.Goals.{After-shared_slice_known-1}

small : (c : After-shared_slice_known-1) → S.total c.args.weights.now ≤ max_total
small c = total_small _ c.requires.0 (λ s. omega (arith, c.shared_slice_known-1.given s))

pub loop-s-preserved : goal.loop-s-preserved
loop-s-preserved c =
    weighing_more c.loop-s.invariant c.requires.0 c.in-Some.ensures.steps.some c.in-Some.ensures.steps.is c.in-Some.ensures.steps.others

pub loop-s-init : goal.loop-s-init
loop-s-init c = rw c.into_iter-s-iterator.ensures.into_iter_gives (weighing_none _ c.requires.1)

pub offset_bounds-weights-s : goal.offset_bounds-weights-s
offset_bounds-weights-s c =
    omega (arith, c.requires.0, weighing_lt c.loop-s.invariant c.requires.0 c.in-Some.ensures.steps.some c.in-Some.ensures.steps.is)

pub bounds-weights-s : goal.bounds-weights-s
bounds-weights-s c =
    weighing_lt c.loop-s.invariant c.requires.0 c.in-Some.ensures.steps.some c.in-Some.ensures.steps.is

pub overflow_cast-sum : goal.overflow_cast-sum
overflow_cast-sum c = omega (arith, c.shared_slice_known-in-loop-s-1.given c.in-Some.s)

pub overflow_add-sum : goal.overflow_add-sum
overflow_add-sum c =
    omega (arith, weighing_fits c.loop-s.invariant c.requires.0 c.in-Some.ensures.steps.some c.in-Some.ensures.steps.is, small (goal.at.overflow_add-sum c).After-shared_slice_known-1)

pub returns : goal.returns
returns c = (
  weighing_all c.loop-s.invariant (omega (arith, c.in-None.ensures.steps.0)),
  omega (arith, weighing_all c.loop-s.invariant (omega (arith, c.in-None.ensures.steps.0)), weight_le c.args.weights.now c.args.set.0, small (goal.at.returns c).After-shared_slice_known-1),
)
