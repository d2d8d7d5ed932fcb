use mathlib.Core.Path.{refl, sym, ap, subst, ◌∙◌}
use Prim.Native.Nat.{ℕ, ◌<◌}
use native.Mathlib.Omega.{arith}
use lib.Count.{count_trailing_zeros}
use Rattle.rules.specs.Word.{without, single}
use Rattle.rules.specs.Layer.{mutex_in}
use Rattle.words.specs.Width.{word_width}
use Rattle.words.proofs.Places.{mutex_up, size_small}
use Rattle.share.proofs.Holders.{looked_all, looked_cut, Less, less_all, less_has, less_lt, less_above, less_more, less_done}
use Rattle.share.proofs.enough.free_of.Goals as goal
use Rattle.share.proofs.enough.free_of.Goals.{In-Some, After-without-free}

pub loop-q-init : goal.loop-q-init
loop-q-init c = rw c.into_iter-q-iterator.ensures.into_iter_gives (less_all c.requires.2)

-- the next goal is one of the n propositions, above p
inside : (c : In-Some) → c.in-Some.q < c.args.n
inside c =
    less_lt c.loop-q.invariant (omega (arith, c.requires.0)) c.in-Some.ensures.steps.some c.in-Some.ensures.steps.is

higher : (c : In-Some) → c.args.p < c.in-Some.q
higher c =
    less_above c.loop-q.invariant (omega (arith, c.requires.0)) c.in-Some.ensures.steps.some _ c.in-Some.ensures.steps.is c.requires.3

pub pair_at-at-requires : goal.pair_at-at-requires
pair_at-at-requires c = (higher (goal.at.pair_at-at-requires c).In-Some, inside (goal.at.pair_at-at-requires c).In-Some, omega (arith, c.requires.0))

pub offset_bounds-layer-at : goal.offset_bounds-layer-at
offset_bounds-layer-at c =
    omega (arith, c.pair_at-at.ensures.1, size_small c.args.n (omega (arith, c.requires.0)))

pub bounds-layer-at : goal.bounds-layer-at
bounds-layer-at c = omega (arith, c.pair_at-at.ensures.1, c.requires.1)

-- with the next goal
more : (c : After-without-free) → Less (mutex_in c.args.n c.args.layer.now c.args.p) c.args.n c.args.above c.args.states.0
    (without c.loop-q.q-iterator.0 (single (count_trailing_zeros word_width c.loop-q.q-iterator.0))) c.without-free.result.0
more c =
    less_more c.loop-q.invariant (omega (arith, c.requires.0)) c.in-Some.ensures.steps.some
    (mutex_up c.args.n c.args.layer.now c.args.p _ _ ((less_above c.loop-q.invariant (omega (arith, c.requires.0)) c.in-Some.ensures.steps.some _ c.in-Some.ensures.steps.is c.requires.3)) c.pair_at-at.ensures.0
    ∙ ap (mutex_in c.args.n c.args.layer.now c.args.p) c.in-Some.ensures.steps.is)
    c.without-free.ensures refl

pub returns-then-within : goal.returns-then-within
returns-then-within c = looked_cut _ _ _ (less_has (more (goal.at.returns-then-within c).After-without-free)) (sym c.within.ensures ∙ c.if-within.true)

pub loop-q-preserved : goal.loop-q-preserved
loop-q-preserved c =
    let a = c.args in
    subst (λ (x : ℕ). Less (mutex_in a.n a.layer.now a.p) a.n a.above a.states.0 x c.without-free.result.0)
    (sym c.in-Some.ensures.steps.others) (more (goal.at.loop-q-preserved c).After-without-free)

pub returns : goal.returns
returns c = looked_all _ (less_done c.loop-q.invariant (omega (arith, c.in-None.ensures.steps.0)))
