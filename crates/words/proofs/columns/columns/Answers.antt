use Rattle.words.proofs.Spreads.{columns_none, columns_more}
use Rattle.words.specs.Rows.{columns_of}
use Rattle.rules.specs.Lists.{list_over}
use Rattle.rules.specs.Shared.{start_label}
use lib.ListN.{length, get_or}
use native.Mathlib.Omega.{arith}
use Prim.Native.Nat.{ℕ}
use mathlib.Core.Path.{◌≡◌, refl, ap, ◌∙◌}
use Rattle.words.proofs.columns.columns.Goals as goal

pub loop-i-init : goal.loop-i-init
loop-i-init c = (
  c.requires.0,
  c.requires.1,
  omega arith,
  refl,
  columns_none _ _ _ c.requires.2,
)

pub loop-i-preserved : goal.loop-i-preserved
loop-i-preserved c =
    let l = c.loop-i in (
      l.invariant.0,
      l.invariant.1,
      omega arith,
      c.spread.auto.row ∙ l.invariant.3,
      columns_more _ l.i _ l.row _ _ _
          l.invariant.4 refl c.single.ensures c.spread.ensures,
    )

pub shape_of-row : goal.shape_of-row
shape_of-row c = c.loop-i.invariant.3

pub returns : goal.returns
unfolding columns_of
returns c =
    let l = c.loop-i in
    let s = c.args in
    let e : l.i ≡ length s.sets.now = omega (arith, l.invariant.2) in
    l.invariant.4 ∙ ap (λ (x : ℕ). list_over (length s.row.now) (start_label x (λ i. get_or s.sets.now i 0))) e
