-- The row is met with the rows that can change it.
use mathlib.Core.Path.{ap, ◌∙◌}
use mathlib.Core.List.{List}
use Prim.Native.Nat.{ℕ, ◌*◌}
use native.Mathlib.Omega.{arith}
use lib.ListN.{get_or}
use Rattle.rules.proofs.Layers.{list_over_eq}
use Rattle.words.specs.Memory.{put_at}
use Rattle.words.specs.Rows.{row_length, cell}
use Rattle.words.proofs.FoldLaws.{meet_laws}
use Rattle.words.proofs.MemberLoops.{meet_nothing}
use Rattle.words.proofs.Cells.{lent_length, lent_put}
use Rattle.words.proofs.parts.meet_row.Goals as goal

pub fold_row-requires-clause-laws : goal.fold_row-requires-clause-laws
fold_row-requires-clause-laws c = meet_laws

pub fold_row-requires-clause-room : goal.fold_row-requires-clause-room
fold_row-requires-clause-room c =
    let t = c.requires.0 in
    (lent_length c.args.row c.args.dest.now t.whole t.inside, omega (arith, c.requires.1), record { whole = c.requires.2.whole; inside = omega (arith, c.rows_for-rows.ensures.1, c.requires.2.inside) }, c.requires.3)

pub returns : goal.returns
returns c =
    let a = c.args in
    let t = c.requires.0 in
    lent_put a.row a.dest.now t.whole t.inside _ c.requires.3 c.fold_row.ensures
    ∙ ap (λ (l : List ℕ). put_at (a.row * row_length) l a.dest.now)
    (list_over_eq (λ k h. meet_nothing row_length a.named (get_or a.start.now k 0) a.own (λ i. cell a.table.now i k) c.rows_for-rows.ensures.0))
