-- `Counts::pre_at` meets its contract, version by version.
use mathlib.Core.Path.{sym, ◌∙◌}
use native.Mathlib.Omega.{arith}
use Rattle.rules.proofs.Tests.{same_of}
use Rattle.graph.proofs.Places.{pre_plain, pre_long, not_plain, pre_before}
use Rattle.graph.proofs.format.Counts.pre_at.Goals as goal

pub returns-then-self-eq-PLAIN_VERSION : goal.returns-then-self-eq-PLAIN_VERSION
returns-then-self-eq-PLAIN_VERSION c = let e = c.action_at.ensures ∙ sym (pre_plain _ (same_of c.if-self-eq-PLAIN_VERSION.true) _) in (e, omega (arith, e, pre_before _ c.requires.0 c.requires.1))

pub returns : goal.returns
returns c = let e = sym (pre_long _ (not_plain c.if-self-eq-PLAIN_VERSION.false) c.args.a) in (e, omega (arith, e, pre_before _ c.requires.0 c.requires.1))
