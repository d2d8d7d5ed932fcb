-- `Layers::lent` meets its contract: what the checks have passed is what there is room for.
use mathlib.Core.Path.{sym}
use Rattle.level.proofs.Answers.{room_of}
use Rattle.level.proofs.layers.Layers.lent.Goals as goal

pub invariant_of-result : goal.invariant_of-result
invariant_of-result c = record { room = room_of c.args.c _ _ _ _ c.requires c.shape-shape.ensures (sym c.in_ok-check_graph.ensures) }
