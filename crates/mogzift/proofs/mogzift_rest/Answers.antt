-- What `rest` answered is returned and told.
use Rattle.mogzift.specs.Answer.{rest_says}
use Rattle.mogzift.proofs.Tells.{tells}
use Rattle.mogzift.proofs.mogzift_rest.Goals as goal

pub returns : goal.returns
returns c = tells _ rest_says _ c.rest.ensures c.tell.ensures.accepted c.tell.ensures.refused
