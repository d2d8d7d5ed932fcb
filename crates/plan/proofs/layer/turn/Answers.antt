use mathlib.Core.Path.{refl, ap, ◌∙◌}
use Rattle.rules.specs.Word.{union}
use Rattle.plan.proofs.Turns.{turned_none, turned_some}
use Rattle.plan.proofs.layer.turn.Goals as goal

-- src/layer.rt:60:9
pub returns-then-t-eq0 : goal.returns-then-t-eq0
returns-then-t-eq0 c = turned_none c.requires.3 c.if-t-eq0.true

-- src/layer.rt:54:1
pub returns : goal.returns
returns c =
    turned_some c.requires.3 c.requires.1 c.if-t-eq0.false refl
    (c.union.ensures ∙ ap (union c.args.s.marks) c.single.ensures) refl c.spread.ensures
