-- The row is put by parts.
use mathlib.Core.Path.{refl}
use Prim.Native.Nat.{ℕ}
use native.Mathlib.Omega.{arith}
use lib.ListN.{get_or}
use Rattle.rules.specs.Word.{common}
use Rattle.words.specs.Rows.{cell}
use Rattle.words.proofs.Cells.{row_narrow, row_wide}
use Rattle.words.proofs.parts.fold_row.Goals as goal

pub returns-then-width-gt-PART : goal.returns-then-width-gt-PART
returns-then-width-gt-PART g c =
    let a = c.args in
    row_wide a.row.now c.requires.room.0 (λ (k : ℕ). g.F.Fold.over a.named (λ i. cell a.table.now i k) (common (get_or a.start.now k 0) a.own))
    c.fold_cols.ensures a.width c.requires.room.3 (omega arith) (λ k. refl) c.fold_cols-then-width-gt-PART.ensures

pub returns-else-width-gt-PART : goal.returns-else-width-gt-PART
returns-else-width-gt-PART g c =
    let a = c.args in
    row_narrow a.row.now c.requires.room.0 (λ (k : ℕ). g.F.Fold.over a.named (λ i. cell a.table.now i k) (common (get_or a.start.now k 0) a.own))
    c.fold_cols.ensures a.width c.requires.room.3 (omega arith)
