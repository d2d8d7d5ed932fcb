-- `Plain::first_of_many` meets its contract: in arrays of zeros no action is marked.
use Rattle.graph.proofs.Equals.{marked_none, chained_none}
use Rattle.graph.proofs.equal.Plain.first_of_many.Goals as goal

pub first_marked-requires : goal.first_marked-requires
first_marked-requires c = (marked_none _, chained_none _)
