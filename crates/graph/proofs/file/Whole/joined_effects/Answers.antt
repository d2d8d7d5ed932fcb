use mathlib.Core.Path.{refl, ap, ◌∙◌}
use Prim.Native.Nat.{ℕ, ◌+◌, ◌*◌}
use native.Mathlib.Omega.{arith}
use Rattle.rules.specs.Over.{join_over}
use Rattle.graph.specs.Format.{set_bytes, set_at}
use Rattle.words.proofs.Folds.{join_none, join_more, join_done}
use Rattle.graph.proofs.Places.{states_long}
use Rattle.graph.proofs.file.Whole.joined_effects.Goals as goal

pub loop-e-init : goal.loop-e-init
loop-e-init c = join_none

pub when_at-requires : goal.when_at-requires
when_at-requires c = (c.args.self.now.ranged, omega (arith, c.loop-e-test.true, c.args.self.now.ranged.effects))

pub joined_sets-joined-requires : goal.joined_sets-joined-requires
joined_sets-joined-requires c = (omega (arith, c.when_at.ensures, c.loop-e-test.true, c.args.self.now.ranged.effects, c.args.self.now.ranged.actions), omega arith, omega (arith, c.when_at.ensures, c.loop-e-test.true, c.args.self.now.long, states_long c.args.self.now.counts c.requires))

pub loop-e-preserved : goal.loop-e-preserved
loop-e-preserved c = join_more c.loop-e.invariant (omega arith) refl (c.joined_sets-joined.ensures ∙ ap (λ (x : ℕ). join_over 3 (λ i. set_at c.args.self.now.bytes.now (x + set_bytes * i))) c.when_at.ensures)

pub returns : goal.returns
returns c = join_done c.loop-e.invariant (omega arith)
