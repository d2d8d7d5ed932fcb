use mathlib.Core.Path.{◌≡◌, ap, ◌∙◌}
use native.Mathlib.Omega.{arith}
use borrow.Author.Count.{below_more}
use Rattle.graph.specs.Verdict.{refused}
use Rattle.graph.proofs.Owners.{stray_at, all_owned}
use Rattle.graph.proofs.file.Whole.find_stray.Goals as goal

pub loop-e-init : goal.loop-e-init
loop-e-init c = (omega arith, λ e h. absurd (omega arith))

pub owner_at-requires : goal.owner_at-requires
owner_at-requires c = (c.args.self.now.ranged, c.requires, c.args.self.now.long, c.loop-e-test.true)

pub effect_at-requires : goal.effect_at-requires
effect_at-requires c = (c.args.self.now.ranged, omega (arith, c.loop-e-test.true, c.args.self.now.ranged.effects))

pub returns-then-self-owner_at : goal.returns-then-self-owner_at
returns-then-self-owner_at c = ap (refused 16) c.effect_at.ensures ∙ stray_at _ _ c.loop-e.invariant.1 c.loop-e-test.true (omega (arith, c.owner_at.ensures, c.if-self-owner_at.true))

pub loop-e-preserved : goal.loop-e-preserved
loop-e-preserved c = (omega arith, below_more _ _ c.loop-e.invariant.1 (omega (arith, c.owner_at.ensures, c.if-self-owner_at.false)))

pub returns : goal.returns
returns c = let l = c.loop-e in let e : l.e ≡ c.args.self.now.counts.effects = omega (arith, l.invariant.0, c.loop-e-test.false) in all_owned _ _ (λ k h. l.invariant.1 k (omega arith))
