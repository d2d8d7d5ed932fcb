-- The rule is what the check of room says.
use Rattle.graph.specs.Checks.{memory_rule}
use Rattle.graph.proofs.checks.check_memory.Goals as goal

pub returns : goal.returns
unfolding memory_rule
returns c = c.check_room.ensures
