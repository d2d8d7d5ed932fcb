use mathlib.Core.Path.{sym, ap, subst, ◌∙◌}
use Prim.Native.Nat.{ℕ, ◌<◌, ◌^◌}
use native.Mathlib.Omega.{arith}
use lib.ListN.{length}
use borrow.Author.Rules.{rules}
use Rattle.words.specs.Rows.{row_length}
use Rattle.words.proofs.MemberLoops.{shares_done}
use Rattle.together.specs.Cells.{label_for}
use Rattle.together.proofs.Rows.{lent, row_long, labels_none, labels_row, labels_more}
use Rattle.together.proofs.admit.label_of.Goals as goal
use Rattle.together.proofs.admit.label_of.Goals.{After-lowest-at}

pub loop-left-init : goal.loop-left-init
loop-left-init c = labels_none c.requires.inside

named-row : (c : After-lowest-at) → c.lowest-at.result < row_length
named-row c = labels_row c.loop-left.invariant (search rules) c.lowest-at.ensures

pub overflow_mul-at : goal.overflow_mul-at
overflow_mul-at c = omega (arith, named-row (goal.at.overflow_mul-at c).After-lowest-at)

pub overflow_add-end : goal.overflow_add-end
overflow_add-end c = omega (arith, named-row (goal.at.overflow_add-end c).After-lowest-at)

pub offset_bounds-t-at : goal.offset_bounds-t-at
offset_bounds-t-at c = omega (arith, named-row (goal.at.offset_bounds-t-at c).After-lowest-at)

pub slice_bounds-meet_at-start : goal.slice_bounds-meet_at-start
slice_bounds-meet_at-start c = omega (arith, named-row (goal.at.slice_bounds-meet_at-start c).After-lowest-at)

pub slice_bounds-meet_at-end : goal.slice_bounds-meet_at-end
slice_bounds-meet_at-end c = omega (arith, named-row (goal.at.slice_bounds-meet_at-end c).After-lowest-at)

pub meet_at-label-requires : goal.meet_at-label-requires
meet_at-label-requires c =
    let p = c.lowest-at.result in
    let t = c.args.t.now in
    let long = ap length (lent t p) ∙ row_long t p c.requires.whole (named-row (goal.at.meet_at-label-requires c).After-lowest-at) in
    (omega (arith, long), subst (λ (n : ℕ). c.loop-left.left < 2 ^ n) (sym long) c.loop-left.invariant.shares.inside)

pub loop-left-smaller : goal.loop-left-smaller
loop-left-smaller c = c.others-left.ensures.1

pub loop-left-preserved : goal.loop-left-preserved
loop-left-preserved c =
    labels_more c.loop-left.invariant (search rules) c.lowest-at.ensures c.requires.whole c.others-left.ensures.0 _
    (lent c.args.t.now c.lowest-at.result) c.meet_at-label.ensures

pub returns : goal.returns
unfolding label_for
returns c = shares_done c.loop-left.invariant.shares (omega arith)
