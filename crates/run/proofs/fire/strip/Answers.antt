use Rattle.run.proofs.Touches.{changes_none, changes_more, changes_done, strip_cut, strip_nothing}
use Rattle.words.proofs.MemberLoops.{lowest_lt}
use Rattle.words.proofs.Spreads.{cut_lt}
use Rattle.rules.specs.Word.{common}
use Prim.Native.Nat.{ℕ, ◌<◌}
use mathlib.Core.Path.{refl, ap, ◌∙◌}
use lib.ListN.{length}
use native.Mathlib.Omega.{arith}
use Rattle.run.proofs.fire.strip.Goals as goal
use Rattle.run.proofs.fire.strip.Goals.{In-Some}

pub returns-then-t-eq0 : goal.returns-then-t-eq0
returns-then-t-eq0 c = strip_nothing _ _ _ c.if-t-eq0.true

pub loop-q-init : goal.loop-q-init
loop-q-init c =
    let e = c.word.ensures.is ∙ c.common.ensures ∙ ap (λ (x : ℕ). common x c.args.set.0) c.first.ensures in
    rw (c.into_iter-q-iterator.ensures.into_iter_gives, e)
    (changes_none (omega (arith, c.requires)) (omega arith) (cut_lt _ c.args.set.0 _ refl))

-- the next member is the number of a word
named : (c : In-Some) → c.in-Some.q < length c.loop-q.row
named c =
    let t = c.in-Some.ensures.steps in let m = c.loop-q.invariant in
    omega (arith, t.is, lowest_lt _ c.loop-q.q-iterator.0 m.few m.inside t.some, m.long)

pub offset_bounds-row-q : goal.offset_bounds-row-q
offset_bounds-row-q c = omega (arith, named (goal.at.offset_bounds-row-q c).In-Some)

pub bounds-row-q : goal.bounds-row-q
bounds-row-q c = omega (arith, named (goal.at.bounds-row-q c).In-Some)

pub offset_bounds-row-q-in-loop-q : goal.offset_bounds-row-q-in-loop-q
offset_bounds-row-q-in-loop-q c = omega (arith, named (goal.at.offset_bounds-row-q-in-loop-q c).In-Some)

pub bounds-row-q-in-loop-q : goal.bounds-row-q-in-loop-q
bounds-row-q-in-loop-q c = omega (arith, named (goal.at.bounds-row-q-in-loop-q c).In-Some)

pub offset_bounds-row-q-in-loop-q-2 : goal.offset_bounds-row-q-in-loop-q-2
offset_bounds-row-q-in-loop-q-2 c = omega (arith, named (goal.at.offset_bounds-row-q-in-loop-q-2 c).In-Some)

pub bounds-row-q-in-loop-q-2 : goal.bounds-row-q-in-loop-q-2
bounds-row-q-in-loop-q-2 c = omega (arith, named (goal.at.bounds-row-q-in-loop-q-2 c).In-Some)

pub loop-q-preserved : goal.loop-q-preserved
loop-q-preserved c =
    let t = c.in-Some.ensures.steps in
    changes_more c.loop-q.invariant t.some t.is refl t.others

pub shape_of-row : goal.shape_of-row
shape_of-row c = c.loop-q.invariant.long

pub returns : goal.returns
returns c = let a = c.args in
    changes_done c.loop-q.invariant (omega (arith, c.in-None.ensures.steps.0))
    ∙ strip_cut a.t a.set.0 _ a.row.now refl
