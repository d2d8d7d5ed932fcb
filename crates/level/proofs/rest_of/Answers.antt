-- The search decides the answer as the rule does.
use Rattle.level.proofs.Answers.{rest_at, rest_none}
use Rattle.level.proofs.rest_of.Goals as goal

pub returns-then-t-layers : goal.returns-then-t-layers
returns-then-t-layers c = rest_at _ _ _ _ c.first_rest-t.ensures c.if-t-layers.true

pub returns : goal.returns
returns c = rest_none _ _ _ _ c.first_rest-t.ensures c.if-t-layers.false
