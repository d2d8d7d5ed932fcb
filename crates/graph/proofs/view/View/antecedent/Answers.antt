-- `View::antecedent` meets its contract: there is none in version 1.
use mathlib.Core.Path.{sym, ap, ◌∙◌}
use native.Mathlib.Omega.{arith}
use Rattle.rules.proofs.Tests.{choose_held, choose_failed, same_of}
use Rattle.graph.specs.Format.{set_at, actions_of}
use Rattle.graph.proofs.Places.{not_plain, states_long}
use Rattle.graph.proofs.view.View.antecedent.Goals as goal

pub returns-then-self-eq-PLAIN_VERSION : goal.returns-then-self-eq-PLAIN_VERSION
unfolding actions_of
returns-then-self-eq-PLAIN_VERSION c = sym (choose_held _ (same_of c.if-self-eq-PLAIN_VERSION.true))

pub set_at-requires : goal.set_at-requires
set_at-requires c = omega (arith, c.when_at.ensures, c.args.self.now.taken.long, states_long c.args.self.now.counts (not_plain c.if-self-eq-PLAIN_VERSION.false))

pub returns : goal.returns
unfolding actions_of
returns c = c.set_at.ensures ∙ ap (set_at _) c.when_at.ensures ∙ sym (choose_failed _ _ (not_plain c.if-self-eq-PLAIN_VERSION.false))
