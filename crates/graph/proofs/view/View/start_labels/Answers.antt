use mathlib.Core.Path.{◌≡◌, refl, ap, ◌∙◌}
use Prim.Native.Nat.{ℕ}
use native.Mathlib.Omega.{arith}
use lib.ListN.{length}
use Rattle.rules.specs.Lists.{list_over}
use Rattle.rules.specs.Shared.{start_label}
use Rattle.rules.proofs.Layers.{length_list_over}
use Rattle.words.specs.Rows.{row_length}
use Rattle.words.proofs.Spreads.{columns_none, columns_more}
use Rattle.graph.specs.Format.{start_of}
use Rattle.graph.proofs.view.View.start_labels.Goals as goal

pub loop-s-init : goal.loop-s-init
loop-s-init c = (omega arith, refl, columns_none _ _ _ c.requires)

pub single-requires : goal.single-requires
single-requires c = omega (arith, c.loop-s-test.true, c.args.self.now.taken.ranged.states)

pub spread-requires : goal.spread-requires
spread-requires c = omega (arith, ap length c.loop-s.invariant.2, length_list_over row_length (start_label c.loop-s.s (start_of c.args.self.now.bytes.now c.args.self.now.counts)))

pub loop-s-preserved : goal.loop-s-preserved
loop-s-preserved c =
    let l = c.loop-s in (
      omega arith,
      c.spread.auto.row ∙ l.invariant.1,
      columns_more _ l.s _ l.labels _ _ _ l.invariant.2 c.start.ensures
          c.single.ensures c.spread.ensures,
    )

pub shape_of-labels : goal.shape_of-labels
shape_of-labels c = c.loop-s.invariant.1

pub returns : goal.returns
returns c =
    let l = c.loop-s in
    let a = c.args in
    let e : l.s ≡ a.self.now.counts.states = omega (arith, l.invariant.0) in
    l.invariant.2 ∙ ap (λ (x : ℕ). list_over row_length (start_label x (start_of a.self.now.bytes.now a.self.now.counts))) e
