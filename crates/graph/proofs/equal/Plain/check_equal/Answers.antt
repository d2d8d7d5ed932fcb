-- `Plain::check_equal` meets its contract: the rule goes by the first action that equals an earlier one.
use mathlib.Core.Path.{ap, ◌∙◌}
use Rattle.graph.specs.Verdict.{refused}
use Rattle.graph.proofs.Equals.{some_equal, none_equal}
use Rattle.graph.proofs.equal.Plain.check_equal.Goals as goal

pub returns-then-a-self : goal.returns-then-a-self
returns-then-a-self c = ap (refused 15) c.action_at.ensures ∙ some_equal _ _ c.args.self.now.plain.1 _ c.first_equal-a.ensures c.if-a-self.true

pub returns : goal.returns
returns c = none_equal _ _ c.args.self.now.plain.1 _ c.first_equal-a.ensures c.if-a-self.false
