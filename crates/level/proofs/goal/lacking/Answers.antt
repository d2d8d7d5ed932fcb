use mathlib.Core.Path.{sym, ◌∙◌}
use borrow.Author.Rules.{rules}
use native.Mathlib.Omega.{arith}
use Rattle.rules.specs.Layer.{label_in}
use Rattle.words.proofs.MemberLoops.{lowest_lt}
use Rattle.level.proofs.Goals.{left_all, left_less, left_found, left_none}
use Rattle.level.proofs.goal.lacking.Goals as goal

pub loop-p-init : goal.loop-p-init
loop-p-init c = rw (c.into_iter-p-iterator.ensures.into_iter_gives, c.word.ensures.is) (left_all (search rules))

-- the next goal is one of the n propositions
pub bounds-layer-p : goal.bounds-layer-p
bounds-layer-p c =
    let t = c.in-Some.ensures.steps in
    omega (arith, t.is, lowest_lt c.args.n c.loop-p.p-iterator.0 (omega arith) c.loop-p.invariant.inside t.some)

pub returns-then-not-within : goal.returns-then-not-within
unfolding label_in
returns-then-not-within c =
    let t = c.in-Some.ensures.steps in
    left_found c.loop-p.invariant (omega arith) t.some t.is (sym c.within.ensures ∙ c.if-not-within.true)

pub loop-p-preserved : goal.loop-p-preserved
unfolding label_in
loop-p-preserved c =
    let t = c.in-Some.ensures.steps in
    left_less c.loop-p.invariant (omega arith) t.some t.others t.is (sym c.within.ensures ∙ c.if-not-within.false)

pub returns : goal.returns
returns c = left_none c.loop-p.invariant (omega (arith, c.in-None.ensures.steps.0))
