use mathlib.Core.Path.{refl, sym, ap, ◌∙◌}
use lib.Bits.{or_zero_r}
use Rattle.rules.specs.Word.{common, union}
use Rattle.rules.proofs.Words.{single_lt}
use Rattle.plan.proofs.Turns.{turned_none, turned_some, one_spread}
use Rattle.plan.proofs.layer.carry.Goals as goal

-- src/layer.rt:43:9
pub returns-then-t-eq0 : goal.returns-then-t-eq0
returns-then-t-eq0 c = turned_none c.requires.2 c.if-t-eq0.true

-- src/layer.rt:37:1
pub returns : goal.returns
returns c =
    turned_some c.requires.2 (single_lt c.requires.0) c.if-t-eq0.false refl (sym (or_zero_r _))
    (c.union.ensures ∙ ap (union c.args.s.live) c.single.ensures) (one_spread c.args.under.now c.args.p (common c.args.s.left c.args.label) _ c.requires.0 refl)
