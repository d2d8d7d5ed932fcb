-- `Plain::needs_of` meets its contract: it reads the first set of the action.
use mathlib.Core.Path.{sym, ap, ◌∙◌}
use Rattle.graph.specs.Format.{set_at, actions_of}
use Rattle.graph.proofs.Places.{pre_plain}
use Rattle.graph.proofs.equal.Plain.needs_of.Goals as goal

pub returns : goal.returns
unfolding actions_of
returns c = c.set_at.ensures ∙ ap (set_at _) (c.action_at.ensures ∙ sym (pre_plain _ c.args.self.now.plain.1 _))
