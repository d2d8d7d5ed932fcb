-- `View::added` meets its contract: it reads the set at its offset.
use mathlib.Core.Path.{ap, ◌∙◌}
use Rattle.graph.specs.Format.{set_at, actions_of}
use Rattle.graph.proofs.view.View.added.Goals as goal

pub returns : goal.returns
unfolding actions_of
returns c = c.set_at.ensures ∙ ap (set_at _) c.add_at.ensures.0
