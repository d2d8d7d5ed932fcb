-- `Counts::states_at` meets its contract, version by version.
use mathlib.Core.Path.{sym, ◌∙◌}
use native.Mathlib.Omega.{arith}
use Rattle.rules.proofs.Tests.{same_of}
use Rattle.graph.proofs.Places.{states_plain, states_long, not_plain, states_few}
use Rattle.graph.proofs.format.Counts.states_at.Goals as goal

pub returns-then-self-eq-PLAIN_VERSION : goal.returns-then-self-eq-PLAIN_VERSION
returns-then-self-eq-PLAIN_VERSION c = let e = c.action_at.ensures ∙ sym (states_plain _ (same_of c.if-self-eq-PLAIN_VERSION.true)) in (e, omega (arith, e, states_few _ c.requires))

pub returns : goal.returns
returns c = let e = c.effect_at.ensures ∙ sym (states_long c.args.self (not_plain c.if-self-eq-PLAIN_VERSION.false)) in (e, omega (arith, e, states_few _ c.requires))
