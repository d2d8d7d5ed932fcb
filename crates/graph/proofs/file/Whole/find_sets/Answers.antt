-- `Whole::find_sets` meets its contract: those before the start states, then these.
use mathlib.Core.Path.{ap, ◌∙◌}
use Rattle.graph.specs.File.{sets_from, sets_rule}
use Rattle.graph.proofs.Verdicts.{ends_at, goes_on}
use Rattle.graph.proofs.file.Whole.find_sets.Goals as goal

pub returns-in_err-find_action_set : goal.returns-in_err-find_action_set
unfolding sets_rule
returns-in_err-find_action_set c = ends_at _ _ _ _ _ c.from_residual.ensures.1 c.in_err-find_action_set.ensures

pub returns : goal.returns
unfolding sets_rule
returns c = goes_on _ _ tt c.in_ok-find_action_set.ensures
    (c.find.ensures ∙ ap (sets_from c.args.self.now.bytes.now c.args.self.now.counts.props c.args.self.now.counts.states) c.states_at.ensures.0)
