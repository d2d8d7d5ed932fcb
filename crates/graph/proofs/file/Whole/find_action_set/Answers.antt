-- `Whole::find_action_set` meets its contract, version by version.
use mathlib.Core.Path.{sym, ◌∙◌}
use native.Mathlib.Omega.{arith}
use Rattle.graph.specs.File.{action_sets}
use Rattle.rules.proofs.Tests.{choose_held, choose_failed, same_of}
use Rattle.graph.proofs.Verdicts.{ends_at, goes_on}
use Rattle.graph.proofs.Places.{states_plain, states_long, not_plain}
use Rattle.graph.proofs.file.Whole.find_action_set.Goals as goal

pub find-requires : goal.find-requires
find-requires c = (omega arith, omega (arith, c.args.self.now.ranged.actions), omega (arith, c.args.self.now.long, states_plain c.args.self.now.counts (same_of c.if-self-eq-PLAIN_VERSION.true)))

pub returns-then-self-eq-PLAIN_VERSION : goal.returns-then-self-eq-PLAIN_VERSION
unfolding action_sets
returns-then-self-eq-PLAIN_VERSION c = c.find.ensures ∙ sym (choose_held _ (same_of c.if-self-eq-PLAIN_VERSION.true))

pub find-requires-2 : goal.find-requires-2
find-requires-2 c = (omega arith, omega (arith, c.args.self.now.ranged.actions), omega (arith, c.args.self.now.long, states_long c.args.self.now.counts (not_plain c.if-self-eq-PLAIN_VERSION.false)))

pub returns-in_err-find : goal.returns-in_err-find
unfolding action_sets
returns-in_err-find c = ends_at _ _ _ _ _ c.from_residual.ensures.1 c.in_err-find.ensures ∙ sym (choose_failed _ _ (not_plain c.if-self-eq-PLAIN_VERSION.false))

pub find_effect_set-requires : goal.find_effect_set-requires
find_effect_set-requires c = not_plain c.if-self-eq-PLAIN_VERSION.false

pub returns : goal.returns
unfolding action_sets
returns c = goes_on _ _ tt c.in_ok-find.ensures c.find_effect_set.ensures ∙ sym (choose_failed _ _ (not_plain c.if-self-eq-PLAIN_VERSION.false))
