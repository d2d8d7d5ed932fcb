-- What `level` answered is returned and told.
use Rattle.mogzift.specs.Answer.{level_says}
use Rattle.mogzift.proofs.Tells.{tells}
use Rattle.mogzift.proofs.mogzift_level.Goals as goal

pub returns : goal.returns
returns c = tells _ level_says _ c.level-found.ensures c.tell.ensures.accepted c.tell.ensures.refused
