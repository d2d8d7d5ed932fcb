use mathlib.Core.Path.{sym, ap, ◌∙◌}
use Prim.Native.Nat.{ℕ}
use native.Mathlib.Omega.{arith}
use native.Mathlib.Nat.{zero-add}
use Rattle.words.proofs.Cells.{rows_none}
use Rattle.words.proofs.Writes.{list_none, list_more, list_done}
use Rattle.together.specs.Cells.{label_for, row_for}
use Rattle.together.proofs.Rows.{parts_le, inside_lt, rows_row}
use Rattle.together.proofs.admit.admit.Goals as goal

pub loop-i-init : goal.loop-i-init
loop-i-init c =
    (list_none (omega (arith, parts_le c.requires.parts)), rows_none (omega arith))

pub admit_row-requires : goal.admit_row-requires
admit_row-requires c =
    let inside = parts_le c.requires.parts in record {
      parts = c.requires.parts;
      inside = omega arith;
      needs = inside_lt {n = c.args.width} c.args.width c.args.effects.needs.now c.loop-i.i c.requires.inside (omega arith) (omega arith)
          c.from.ensures;
      r_long = c.loop-i.invariant.1.long;
      labels_long = omega arith;
      t_long = omega arith;
    }

pub bounds-live-i : goal.bounds-live-i
bounds-live-i c = omega (arith, c.loop-i.invariant.0.long, parts_le c.requires.parts)

pub loop-i-preserved : goal.loop-i-preserved
loop-i-preserved c =
    let a = c.args in (
      list_more c.loop-i.invariant.0 c.loop-i-test.true (sym (zero-add _))
          (c.admit_row.ensures.0 ∙ ap (label_for a.all a.layer.now.t) c.from.ensures),
      rows_row c.loop-i.invariant.1 c.requires.parts (omega (arith, c.admit_row.auto.r, c.loop-i.invariant.1.long)) c.admit_row.ensures.1
          (λ k h. ap (λ (x : ℕ). row_for a.all a.layer.now.labels a.layer.now.t x k) c.from.ensures),
    )

pub shape_of-live : goal.shape_of-live
shape_of-live c = c.loop-i.invariant.0.long

pub returns : goal.returns
returns c = (list_done c.loop-i.invariant.0 (omega arith), λ i q h l. c.loop-i.invariant.1.is i q (omega arith) l)
