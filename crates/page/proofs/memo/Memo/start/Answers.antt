use mathlib.Core.Path.{refl, sym, subst}
use mathlib.Core.Bool.{So}
use Prim.Native.Nat.{ℕ, ◌<◌}
use native.Mathlib.Omega.{arith}
use borrow.Author.Rules.{rules}
use Rattle.rules.specs.Word.{bit}
use Rattle.words.proofs.MemberLoops.{lowest_in, lowest_lt}
use Rattle.level.proofs.Goals.{left_all, left_less}
use Rattle.page.specs.Memo.{of_none}
use Rattle.page.proofs.Memos.{of_label}
use Rattle.page.proofs.memo.Memo.start.Goals as goal
use Rattle.page.proofs.memo.Memo.start.Goals.{In-Some}

-- the next label is one of the goal's
inside : (c : In-Some) → c.in-Some.p < c.args.self.now.layers.shape.props
inside c =
    let l = c.loop-p in
    omega (arith, c.in-Some.ensures.steps.is, lowest_lt c.args.self.now.layers.shape.props l.p-iterator.0 (omega arith) l.invariant.0.inside c.in-Some.ensures.steps.some)

member : (c : In-Some) → So (bit c.in-Some.p c.args.goal.0)
member c =
    let l = c.loop-p in
    l.invariant.0.part _ (subst (λ (x : ℕ). So (bit x l.p-iterator.0)) (sym c.in-Some.ensures.steps.is)
    (lowest_in c.args.self.now.layers.shape.props l.p-iterator.0 (omega arith) l.invariant.0.inside c.in-Some.ensures.steps.some))

pub loop-p-init : goal.loop-p-init
loop-p-init c = (rw (c.into_iter-p-iterator.ensures.into_iter_gives, c.word.ensures.is) (left_all (search rules)), of_none refl)

pub offset_bounds-self-p : goal.offset_bounds-self-p
offset_bounds-self-p c = omega (arith, inside (goal.at.offset_bounds-self-p c).In-Some)

pub bounds-self-p : goal.bounds-self-p
bounds-self-p c = omega (arith, inside (goal.at.bounds-self-p c).In-Some)

pub loop-p-preserved : goal.loop-p-preserved
loop-p-preserved c =
    let l = c.loop-p in (
      left_less l.invariant.0 (omega arith) c.in-Some.ensures.steps.some c.in-Some.ensures.steps.others c.in-Some.ensures.steps.is refl,
      of_label c.in-Some.p l.invariant.1 (inside (goal.at.loop-p-preserved c).In-Some) (member (goal.at.loop-p-preserved c).In-Some) c.max-t.ensures,
    )

pub returns : goal.returns
returns c = c.loop-p.invariant.1
