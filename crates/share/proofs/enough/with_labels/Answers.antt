use mathlib.Core.Path.{refl, sym, ap, subst, ◌∙◌}
use Prim.Native.Nat.{ℕ, ◌<◌}
use native.Mathlib.Omega.{arith}
use lib.Count.{count_trailing_zeros}
use Rattle.rules.specs.Word.{without, single}
use Rattle.rules.specs.Layer.{label_in}
use Rattle.words.specs.Width.{word_width}
use Rattle.words.proofs.MemberLoops.{lowest_lt, Shares, shares_none, shares_more}
use Rattle.share.proofs.Holders.{looked_all, looked_cut, labels_in, labels_done}
use Rattle.share.proofs.enough.with_labels.Goals as goal
use Rattle.share.proofs.enough.with_labels.Goals.{After-common-held, In-Some}

pub loop-p-init : goal.loop-p-init
loop-p-init c = rw (c.into_iter-p-iterator.ensures.into_iter_gives, c.word.ensures.is) (shares_none c.requires.2)

-- the next goal has a label
inside : (c : In-Some) → c.in-Some.p < c.args.n
inside c =
    omega (
      arith,
      c.in-Some.ensures.steps.is,
      lowest_lt c.args.n c.loop-p.p-iterator.0 (omega (arith, c.requires.0))
          c.loop-p.invariant.inside c.in-Some.ensures.steps.some,
    )

pub offset_bounds-layer-p : goal.offset_bounds-layer-p
offset_bounds-layer-p c = omega (arith, inside (goal.at.offset_bounds-layer-p c).In-Some, c.requires.0)

pub bounds-layer-p : goal.bounds-layer-p
bounds-layer-p c = omega (arith, inside (goal.at.bounds-layer-p c).In-Some, c.requires.1)

-- with the next goal
more : (c : After-common-held) → Shares (label_in c.args.layer.now) c.args.all.0 c.args.n c.args.goal.0
    (without c.loop-p.p-iterator.0 (single (count_trailing_zeros word_width c.loop-p.p-iterator.0))) c.common-held.result.0
unfolding label_in
more c =
    shares_more c.loop-p.invariant (omega (arith, c.requires.0)) c.in-Some.ensures.steps.some (ap (label_in c.args.layer.now) c.in-Some.ensures.steps.is)
    c.common-held.ensures refl

pub returns-then-within : goal.returns-then-within
returns-then-within c =
    looked_cut _ _ _ (labels_in _ (more (goal.at.returns-then-within c).After-common-held)) (sym c.within.ensures ∙ c.if-within.true)

pub loop-p-preserved : goal.loop-p-preserved
loop-p-preserved c =
    subst (λ (x : ℕ). Shares (label_in c.args.layer.now) c.args.all.0 c.args.n c.args.goal.0 x c.common-held.result.0)
    (sym c.in-Some.ensures.steps.others) (more (goal.at.loop-p-preserved c).After-common-held)

pub returns : goal.returns
returns c = looked_all _ (labels_done _ c.loop-p.invariant (omega (arith, c.in-None.ensures.steps.0)))
