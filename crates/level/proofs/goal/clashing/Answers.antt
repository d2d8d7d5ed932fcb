use mathlib.Core.Path.{◌≡◌, sym, ap, ◌∙◌}
use mathlib.Core.Bool.{Bool}
use Prim.Native.Nat.{◌<◌}
use borrow.Author.Rules.{rules}
use native.Mathlib.Omega.{arith}
use Rattle.rules.specs.Test.{fails}
use Rattle.rules.specs.Word.{meets}
use Rattle.words.proofs.MemberLoops.{lowest_lt}
use Rattle.words.proofs.Places.{mutex_up, size_small}
use Rattle.level.specs.Meets.{pair_meets}
use Rattle.level.proofs.Goals.{left_all, left_above, left_less, left_found, left_none}
use Rattle.level.proofs.goal.clashing.Goals as goal
use Rattle.level.proofs.goal.clashing.Goals.{In-Some, After-meets}

-- the next goal is one of the n propositions, above p
inside : (c : In-Some) → c.in-Some.q < c.args.n
inside c =
    let t = c.in-Some.ensures.steps in
    omega (arith, t.is, lowest_lt c.args.n c.loop-q.q-iterator.0 (omega arith) c.loop-q.invariant.inside t.some)

higher : (c : In-Some) → c.args.p < c.in-Some.q
higher c =
    let t = c.in-Some.ensures.steps in
    omega (arith, t.is, left_above c.loop-q.invariant (omega arith) t.some c.args.p c.requires.3)

-- its mutex word with p is tested
tested : (c : After-meets) (b : Bool) → c.args.p < c.in-Some.q → c.meets.result ≡ b
    → let a = c.args in
    pair_meets a.n a.layer.now a.set.0 a.p c.in-Some.q ≡ fails b
unfolding pair_meets
tested c b up e =
    let a = c.args in
    ap fails (sym (c.meets.ensures ∙ ap (meets a.set.0) (mutex_up a.n a.layer.now a.p _ _ up c.pair_at-at.ensures.0)) ∙ e)

pub loop-q-init : goal.loop-q-init
loop-q-init c = rw c.into_iter-q-iterator.ensures.into_iter_gives (left_all (search rules))

pub pair_at-at-requires : goal.pair_at-at-requires
pair_at-at-requires c = (higher (goal.at.pair_at-at-requires c).In-Some, inside (goal.at.pair_at-at-requires c).In-Some, search rules)

pub offset_bounds-layer-at : goal.offset_bounds-layer-at
offset_bounds-layer-at c = omega (arith, c.pair_at-at.ensures.1, size_small c.args.n (omega arith))

pub bounds-layer-at : goal.bounds-layer-at
bounds-layer-at c = omega (arith, c.pair_at-at.ensures.1)

pub returns-then-meets : goal.returns-then-meets
unfolding fails
returns-then-meets c =
    let t = c.in-Some.ensures.steps in
    left_found c.loop-q.invariant (omega arith) t.some t.is
    (tested (goal.at.returns-then-meets c).After-meets _ (higher (goal.at.returns-then-meets c).In-Some) c.if-meets.true)

pub loop-q-preserved : goal.loop-q-preserved
unfolding fails
loop-q-preserved c =
    let t = c.in-Some.ensures.steps in
    left_less c.loop-q.invariant (omega arith) t.some t.others t.is
    (tested (goal.at.loop-q-preserved c).After-meets _ (higher (goal.at.loop-q-preserved c).In-Some) c.if-meets.false)

pub returns : goal.returns
returns c = left_none c.loop-q.invariant (omega (arith, c.in-None.ensures.steps.0))
