-- `Counts::sets_at` meets its contract, version by version.
use mathlib.Core.Path.{sym, ◌∙◌}
use native.Mathlib.Omega.{arith}
use Rattle.rules.proofs.Tests.{same_of}
use Rattle.graph.proofs.Places.{sets_plain, sets_long, not_plain}
use Rattle.graph.proofs.format.Counts.sets_at.Goals as goal

pub returns-then-self-eq-PLAIN_VERSION : goal.returns-then-self-eq-PLAIN_VERSION
returns-then-self-eq-PLAIN_VERSION c = (c.action_at.ensures ∙ sym (sets_plain _ (same_of c.if-self-eq-PLAIN_VERSION.true) _), omega (arith, c.action_at.ensures))

pub returns : goal.returns
returns c = (c.when_at.ensures ∙ sym (sets_long _ (not_plain c.if-self-eq-PLAIN_VERSION.false) _), omega (arith, c.when_at.ensures, c.requires.0.actions))
