-- The rule is what the check of room says.
use Rattle.graph.specs.Checks.{output_rule}
use Rattle.graph.proofs.checks.check_output.Goals as goal

pub returns : goal.returns
unfolding output_rule
returns c = c.check_room.ensures
