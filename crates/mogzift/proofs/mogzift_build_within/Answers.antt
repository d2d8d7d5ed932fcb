-- What `build_within` answered is returned and told; the words are as it left them.
use Rattle.mogzift.specs.Answer.{build_says}
use Rattle.mogzift.proofs.Tells.{tells, with_memory}
use Rattle.mogzift.proofs.mogzift_build_within.Goals as goal

pub returns : goal.returns
returns c = with_memory (tells _ build_says _ c.build_within-built.ensures.0 c.tell.ensures.accepted c.tell.ensures.refused) c.build_within-built.ensures.1
