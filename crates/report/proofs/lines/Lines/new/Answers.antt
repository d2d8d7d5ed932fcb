-- The search decides the rest as the rule does.
use mathlib.Core.Path.{ap, ◌∙◌}
use Rattle.level.specs.Rule.{rest_said}
use Rattle.level.proofs.Answers.{rest_at, rest_none}
use Rattle.report.proofs.lines.Lines.new.Goals as goal
use Rattle.report.proofs.lines.Lines.new.Goals.{then-t-layers, else-t-layers}

pub invariant_of-result : goal.invariant_of-result
invariant_of-result c = record {
  rest_is = elim c.if-t-layers.branch [
    | then-t-layers w ↦ ap rest_said w.rest-is ∙ rest_at _ _ _ _ c.first_rest-t.ensures w.if-t-layers.true
    | else-t-layers w ↦ ap rest_said w.rest-is ∙ rest_none _ _ _ _ c.first_rest-t.ensures w.if-t-layers.false
  ];
}
