-- `calls::check_set` meets its contract: a set below 2^N is at most the first N.
use mathlib.Core.Path.{sym, ◌∙◌}
use native.Mathlib.Omega.{arith}
use lib.Pow.{pow_pos}
use Rattle.graph.proofs.Links.{no_states, wide_states, some_states}
use Rattle.graph.proofs.checks.check_set.Goals as goal

pub returns-then-is_empty : goal.returns-then-is_empty
returns-then-is_empty c = no_states _ _ (sym c.is_empty.ensures ∙ c.if-is_empty.true)

pub returns-then-first-set : goal.returns-then-first-set
returns-then-first-set c = wide_states _ _ (sym c.is_empty.ensures ∙ c.if-is_empty.false)
    (omega (arith, pow_pos c.args.states))

pub returns : goal.returns
returns c = some_states _ _ (sym c.is_empty.ensures ∙ c.if-is_empty.false)
    (omega (arith, pow_pos c.args.states))
