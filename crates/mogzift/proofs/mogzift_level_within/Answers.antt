-- What `level_within` answered is returned and told.
use Rattle.mogzift.specs.Answer.{levels_says}
use Rattle.mogzift.proofs.Tells.{tells}
use Rattle.mogzift.proofs.mogzift_level_within.Goals as goal

pub returns : goal.returns
returns c = tells _ levels_says _ c.level_within-found.ensures c.tell.ensures.accepted c.tell.ensures.refused
