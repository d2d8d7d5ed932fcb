-- What `plan` answered is returned and told; the output is as it left it.
use Rattle.mogzift.specs.Answer.{plan_says}
use Rattle.mogzift.proofs.Tells.{tells, with_memory}
use Rattle.mogzift.proofs.mogzift_plan.Goals as goal

pub returns : goal.returns
returns c = with_memory (tells _ plan_says _ c.plan-planned.ensures.0 c.tell.ensures.accepted c.tell.ensures.refused) c.plan-planned.ensures.1
