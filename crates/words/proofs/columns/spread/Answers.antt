use Rattle.words.proofs.Spreads.{spreads_none, spreads_more, spreads_done, cut_lt, spread_cut, spread_nothing}
use Rattle.words.proofs.MemberLoops.{lowest_lt}
use Rattle.rules.specs.Word.{common}
use Prim.Native.Nat.{ℕ}
use mathlib.Core.Path.{refl, ap, ◌∙◌}
use native.Mathlib.Omega.{arith}
use Rattle.words.proofs.columns.spread.Goals as goal

pub returns-then-t-eq0 : goal.returns-then-t-eq0
returns-then-t-eq0 c = spread_nothing _ _ _ c.if-t-eq0.true

pub loop-q-init : goal.loop-q-init
loop-q-init c =
    let e = c.word.ensures.is ∙ c.common.ensures ∙ ap (λ (x : ℕ). common x c.args.set.0) c.first.ensures in
    rw (c.into_iter-q-iterator.ensures.into_iter_gives, e) (spreads_none (omega (arith, c.requires)) (cut_lt _ c.args.set.0 _ refl))

pub bounds-row-q : goal.bounds-row-q
bounds-row-q c =
    let t = c.in-Some.ensures.steps in let m = c.loop-q.invariant in
    omega (arith, t.is, lowest_lt _ c.loop-q.q-iterator.0 m.few m.inside t.some, m.long)

pub bounds-row-q-in-loop-q : goal.bounds-row-q-in-loop-q
bounds-row-q-in-loop-q c =
    let t = c.in-Some.ensures.steps in let m = c.loop-q.invariant in
    omega (arith, t.is, lowest_lt _ c.loop-q.q-iterator.0 m.few m.inside t.some, m.long)

pub loop-q-preserved : goal.loop-q-preserved
loop-q-preserved c =
    let t = c.in-Some.ensures.steps in
    spreads_more c.loop-q.invariant t.some t.is refl t.others

pub shape_of-row : goal.shape_of-row
shape_of-row c = c.loop-q.invariant.long

pub returns : goal.returns
returns c = let a = c.args in
    spreads_done c.loop-q.invariant (omega (arith, c.in-None.ensures.steps.0))
    ∙ spread_cut a.t a.set.0 _ a.row.now refl
