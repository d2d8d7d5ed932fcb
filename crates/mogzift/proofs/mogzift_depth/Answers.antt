-- What `fitting_depth` answered is returned and told.
use Rattle.mogzift.specs.Answer.{depth_says}
use Rattle.mogzift.proofs.Tells.{tells}
use Rattle.mogzift.proofs.mogzift_depth.Goals as goal

pub returns : goal.returns
returns c = tells _ depth_says _ c.fitting_depth.ensures c.tell.ensures.accepted c.tell.ensures.refused
