-- What `build` answered is returned and told; the words are as it left them.
use Rattle.mogzift.specs.Answer.{build_says}
use Rattle.mogzift.proofs.Tells.{tells, with_memory}
use Rattle.mogzift.proofs.mogzift_build.Goals as goal

pub returns : goal.returns
returns c = with_memory (tells _ build_says _ c.build-built.ensures.0 c.tell.ensures.accepted c.tell.ensures.refused) c.build-built.ensures.1
