-- `Whole::find_effect_set` meets its contract: the effects before this one have no such set.
use mathlib.Core.Path.{sym, ap, ◌∙◌}
use native.Mathlib.Omega.{arith}
use Rattle.graph.specs.File.{sets_from}
use Rattle.graph.proofs.Files.{effects_all, effects_bad, effects_next, effects_none}
use Rattle.graph.proofs.Verdicts.{handed_on}
use Rattle.graph.proofs.Places.{states_long}
use Rattle.graph.proofs.file.Whole.find_effect_set.Goals as goal

pub loop-e-init : goal.loop-e-init
loop-e-init c = effects_all _ _

pub when_at-requires : goal.when_at-requires
when_at-requires c = (c.args.self.now.ranged, omega (arith, c.loop-e-test.true, c.args.self.now.ranged.effects))

pub find-requires : goal.find-requires
find-requires c = (omega (arith, c.when_at.ensures, c.loop-e-test.true, c.args.self.now.ranged.effects, c.args.self.now.ranged.actions), omega arith, omega (arith, c.when_at.ensures, c.loop-e-test.true, c.args.self.now.long, states_long c.args.self.now.counts c.requires))

pub returns-in_err-find : goal.returns-in_err-find
returns-in_err-find c = handed_on _ _ _ c.from_residual.ensures.1 ∙ effects_bad _ _ c.loop-e.invariant c.loop-e-test.true _ _
    (ap (sets_from c.args.self.now.bytes.now c.args.self.now.counts.props 3) (sym c.when_at.ensures) ∙ sym c.in_err-find.ensures)

pub loop-e-preserved : goal.loop-e-preserved
loop-e-preserved c = effects_next _ _ c.loop-e.invariant c.loop-e-test.true
    (ap (sets_from c.args.self.now.bytes.now c.args.self.now.counts.props 3) (sym c.when_at.ensures) ∙ sym c.in_ok-find.ensures)

pub returns : goal.returns
returns c = effects_none _ _ c.loop-e.invariant c.loop-e-test.false
