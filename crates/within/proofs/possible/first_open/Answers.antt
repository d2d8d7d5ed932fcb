use mathlib.Core.Path.{sym, ◌∙◌}
use native.Mathlib.Omega.{arith}
use borrow.Author.Count.{below_more}
use Rattle.within.proofs.Possibles.{open_here, none_open}
use Rattle.within.proofs.possible.first_open.Goals as goal

pub loop-s-init : goal.loop-s-init
loop-s-init c = (omega arith, λ s h. absurd (omega arith))

pub offset_bounds-possible-s : goal.offset_bounds-possible-s
offset_bounds-possible-s c = omega (arith, c.requires.1)

pub bounds-possible-s : goal.bounds-possible-s
bounds-possible-s c = omega (arith, c.loop-s-test.true, c.requires.1)

pub encloses-requires : goal.encloses-requires
encloses-requires c = c.requires.0

pub returns-then-not-encloses : goal.returns-then-not-encloses
returns-then-not-encloses c =
    open_here _ _ _ _ c.loop-s.invariant.1 c.loop-s-test.true (sym c.encloses.ensures ∙ c.if-not-encloses.true)

pub loop-s-preserved : goal.loop-s-preserved
loop-s-preserved c = (
  omega arith,
  below_more _ _ c.loop-s.invariant.1 (sym c.encloses.ensures ∙ c.if-not-encloses.false),
)

pub returns : goal.returns
returns c =
    let l = c.loop-s in
    none_open _ _ _ _ (λ s h. l.invariant.1 s (omega arith))
