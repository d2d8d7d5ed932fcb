use mathlib.Core.Path.{refl, sym, ap, subst, ◌∙◌}
use Prim.Native.Nat.{ℕ, ◌^◌, ◌<◌}
use native.Mathlib.Omega.{arith}
use lib.ListN.{get_or, length-set}
use Rattle.rules.specs.Word.{common}
use Rattle.words.specs.Rows.{row_length}
use Rattle.words.proofs.Cells.{rows_none}
use Rattle.rules.proofs.Words.{common_lt, first_lt}
use Rattle.together.proofs.Rows.{parts_le, inside_lt, rows_row, pairs_put, cut_cleared}
use Rattle.together.proofs.pairs.pairs.Goals as goal

pub loop-i-init : goal.loop-i-init
loop-i-init c = (parts_le c.requires.parts, rows_none (omega arith))

pub meet_row-requires : goal.meet_row-requires
meet_row-requires c = (
  record { whole = c.loop-i.invariant.1.long; inside = omega arith },
  c.requires.live_long,
  record { whole = c.requires.turned_long; inside = inside_lt {n = row_length} row_length c.args.effects.needs.now c.loop-i.i c.args.effects.listed.needs_inside (omega arith) (omega arith) c.from.ensures },
  c.requires.parts,
)

pub clear_cells-requires : goal.clear_cells-requires
clear_cells-requires c = (
  omega arith,
  omega arith,
  subst (λ (x : ℕ). x < 2 ^ row_length) (sym (c.common-named.ensures ∙ ap (λ (x : ℕ). common x (get_or c.args.effects.interferers.now c.loop-i.i 0)) c.first.ensures)) (common_lt row_length _ (first_lt row_length)),
)

pub loop-i-preserved : goal.loop-i-preserved
loop-i-preserved c =
    let a = c.args in (
      c.loop-i.invariant.0,
      rows_row c.loop-i.invariant.1 c.requires.parts (length-set c.clear_cells.new.table _ _ ∙ omega arith)
          (pairs_put a.effects.needs.now a.effects.interferers.now a.live.now a.turned.now c.requires.parts (omega arith) c.loop-i.invariant.1.long (omega arith) (omega arith)
          c.from.ensures c.meet_row.ensures
          (cut_cleared (get_or a.effects.interferers.now c.loop-i.i 0) c.loop-i.i _ (c.common-named.ensures ∙ ap (λ (x : ℕ). common x (get_or a.effects.interferers.now c.loop-i.i 0)) c.first.ensures) c.clear_cells.ensures)) (λ k h. refl),
    )

pub returns : goal.returns
returns c = λ i j h l. c.loop-i.invariant.1.is i j (omega arith) l
