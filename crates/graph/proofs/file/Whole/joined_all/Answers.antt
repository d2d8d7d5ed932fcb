-- `Whole::joined_all` meets its contract, version by version: sets that together have no bit P or above have none.
use mathlib.Core.Path.{sym, ap, subst, ◌∙◌}
use Prim.Native.Nat.{ℕ, ◌+◌, ◌*◌, ◌^◌, ◌<◌}
use native.Mathlib.Omega.{arith}
use Rattle.rules.specs.Over.{join_over}
use Rattle.graph.specs.Format.{set_bytes, set_at}
use Rattle.rules.proofs.Tests.{same_of}
use Rattle.graph.proofs.Places.{states_plain, states_long, not_plain}
use Rattle.graph.proofs.Files.{fits_pass, joined_plain, joined_long}
use Rattle.graph.proofs.file.Whole.joined_all.Goals as goal

pub joined_sets-requires : goal.joined_sets-requires
joined_sets-requires c = (omega arith, omega (arith, c.args.self.now.ranged.actions, c.args.self.now.ranged.states), omega (arith, c.args.self.now.long, states_plain c.args.self.now.counts (same_of c.if-self-eq-PLAIN_VERSION.true)))

pub returns-then-self-eq-PLAIN_VERSION : goal.returns-then-self-eq-PLAIN_VERSION
returns-then-self-eq-PLAIN_VERSION c = λ h. sym (fits_pass _ _ (joined_plain c.args.self.now.bytes.now c.args.self.now.counts (same_of c.if-self-eq-PLAIN_VERSION.true) (subst (λ (x : ℕ). x < 2 ^ c.args.self.now.counts.props) c.joined_sets.ensures h)))

pub joined_sets-requires-2 : goal.joined_sets-requires-2
joined_sets-requires-2 c = (omega arith, omega (arith, c.args.self.now.ranged.actions), omega (arith, c.args.self.now.long, states_long c.args.self.now.counts (not_plain c.if-self-eq-PLAIN_VERSION.false)))

pub joined_effects-requires : goal.joined_effects-requires
joined_effects-requires c = not_plain c.if-self-eq-PLAIN_VERSION.false

pub returns : goal.returns
returns c = λ h. let f = c.args.self.now.bytes.now in sym (fits_pass _ _ (joined_long f c.args.self.now.counts (not_plain c.if-self-eq-PLAIN_VERSION.false)
    c.joined_sets-2.ensures c.joined_effects.ensures
    (c.joined_sets-3.ensures ∙ ap (λ (x : ℕ). join_over c.args.self.now.counts.states (λ i. set_at f (x + set_bytes * i))) c.states_at.ensures.0) h))
