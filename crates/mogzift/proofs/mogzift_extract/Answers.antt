-- What `extract` answered is returned and told; the output is as it left it.
use Rattle.mogzift.specs.Answer.{count_says}
use Rattle.mogzift.proofs.Tells.{tells, with_memory}
use Rattle.mogzift.proofs.mogzift_extract.Goals as goal

pub returns : goal.returns
returns c = with_memory (tells _ count_says _ c.extract-cut.ensures.0 c.tell.ensures.accepted c.tell.ensures.refused) c.extract-cut.ensures.1
