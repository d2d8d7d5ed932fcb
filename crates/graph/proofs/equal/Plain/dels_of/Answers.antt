-- `Plain::dels_of` meets its contract: it reads the third set of the action.
use mathlib.Core.Path.{ap, ◌∙◌}
use native.Mathlib.Omega.{arith}
use Rattle.graph.specs.Format.{set_at, actions_of}
use Rattle.graph.proofs.Places.{sets_plain}
use Rattle.graph.proofs.equal.Plain.dels_of.Goals as goal

pub returns : goal.returns
unfolding actions_of
returns c = c.set_at.ensures ∙ ap (set_at _) (omega (arith, c.action_at.ensures, sets_plain c.args.self.now.counts c.args.self.now.plain.1 c.args.a))
