-- `View::owner` meets its contract: in version 1 an effect is its own action's.
use mathlib.Core.Path.{sym, subst}
use Prim.Native.Nat.{ℕ, ◌<◌}
use native.Mathlib.Omega.{arith}
use Rattle.rules.proofs.Tests.{choose_held, same_of}
use Rattle.graph.specs.Format.{actions_of}
use Rattle.graph.proofs.Places.{not_plain}
use Rattle.graph.proofs.view.View.owner.Goals as goal

pub returns-then-self-eq-PLAIN_VERSION : goal.returns-then-self-eq-PLAIN_VERSION
unfolding actions_of
returns-then-self-eq-PLAIN_VERSION c = (sym (choose_held _ (same_of c.if-self-eq-PLAIN_VERSION.true)), omega (arith, c.args.self.now.taken.ranged.own (same_of c.if-self-eq-PLAIN_VERSION.true)))

pub owner_at-requires : goal.owner_at-requires
owner_at-requires c = (c.args.self.now.taken.ranged, not_plain c.if-self-eq-PLAIN_VERSION.false, c.args.self.now.taken.long, c.requires)

pub returns : goal.returns
unfolding actions_of
returns c = (c.owner_at.ensures, subst (λ (x : ℕ). x < c.args.self.now.counts.actions) (sym c.owner_at.ensures) (c.args.self.now.taken.sound.owner c.args.e c.requires))
