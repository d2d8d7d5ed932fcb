-- What `run` answered is returned and told; the output is as it left it.
use Rattle.mogzift.specs.Answer.{run_says}
use Rattle.mogzift.proofs.Tells.{tells, with_memory}
use Rattle.mogzift.proofs.mogzift_run.Goals as goal

pub returns : goal.returns
returns c = with_memory (tells _ run_says _ c.run.ensures.0 c.tell.ensures.accepted c.tell.ensures.refused) c.run.ensures.1
