-- `View::start` meets its contract: it reads the set at its offset.
use mathlib.Core.Path.{ap, ◌∙◌}
use Rattle.graph.specs.Format.{set_at, start_of}
use Rattle.graph.proofs.view.View.start.Goals as goal

pub returns : goal.returns
unfolding start_of
returns c = c.set_at.ensures ∙ ap (set_at _) c.state_at.ensures
