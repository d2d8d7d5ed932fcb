-- `possible::encloses` meets its contract: a set below 2^P is at most the first P.
use mathlib.Core.Path.{sym, ◌∙◌}
use native.Mathlib.Omega.{arith}
use lib.Pow.{pow_pos}
use Rattle.within.proofs.Possibles.{lacks, too_wide, enclosing}
use Rattle.within.proofs.possible.encloses.Goals as goal

pub returns-then-not-within : goal.returns-then-not-within
returns-then-not-within c = lacks _ _ _ (sym c.within.ensures ∙ c.if-not-within.true)

pub returns-then-first-set : goal.returns-then-first-set
returns-then-first-set c =
    too_wide _ _ _ (sym c.within.ensures ∙ c.if-not-within.false)
    (omega (arith, pow_pos c.args.props))

pub returns : goal.returns
returns c =
    enclosing _ _ _ (sym c.within.ensures ∙ c.if-not-within.false)
    (omega (arith, pow_pos c.args.props))
