use mathlib.Core.Path.{sym, ◌∙◌}
use native.Mathlib.Omega.{arith}
use Rattle.rules.proofs.Tests.{is_fails}
use Rattle.share.proofs.Holders.{looked_all, looked_part, apart_all, apart_inside, apart_above, apart_more, apart_in, apart_done}
use Rattle.share.proofs.enough.free_in.Goals as goal

pub loop-p-init : goal.loop-p-init
loop-p-init c = rw c.word.ensures.is (apart_all c.requires.2)

pub free_of-free-requires : goal.free_of-free-requires
free_of-free-requires c = (
  c.requires.0,
  omega (arith, c.requires.1),
  apart_inside c.loop-p.invariant (omega (arith, c.requires.0)) c.in-Some.ensures.steps.some c.in-Some.ensures.steps.is c.in-Some.ensures.steps.others,
  apart_above c.loop-p.invariant (omega (arith, c.requires.0)) c.in-Some.ensures.steps.some c.in-Some.ensures.steps.is c.in-Some.ensures.steps.others,
)

pub returns-then-within : goal.returns-then-within
returns-then-within c =
    looked_part _ _ (apart_in c.loop-p.invariant (omega (arith, c.requires.0)) c.in-Some.ensures.steps.some c.in-Some.ensures.steps.is c.in-Some.ensures.steps.others)
    c.free_of-free.ensures (sym c.within.ensures ∙ c.if-within.true)

pub loop-p-preserved : goal.loop-p-preserved
loop-p-preserved c =
    apart_more c.loop-p.invariant (omega (arith, c.requires.0)) c.in-Some.ensures.steps.some c.in-Some.ensures.steps.is c.in-Some.ensures.steps.others
    (c.free_of-free.ensures.else (is_fails (sym c.within.ensures ∙ c.if-within.false)))

pub returns : goal.returns
returns c = looked_all _ (apart_done c.loop-p.invariant (omega (arith, c.in_default.ensures.steps.0)))
