-- Words cut to all bits are whole.
use mathlib.Core.Path.{ap, ◌∙◌}
use mathlib.Core.List.{List}
use mathlib.Core.Logic.{⊎_elim}
use Prim.Native.Nat.{◌≤◌, ℕ, ◌+◌, ◌*◌}
use native.Mathlib.Omega.{arith}
use Rattle.rules.specs.Word.{common, first, union}
use Rattle.rules.specs.Over.{join_of}
use Rattle.rules.proofs.Layers.{list_over_eq}
use Rattle.words.specs.Memory.{put_at}
use Rattle.words.specs.Width.{word_width}
use Rattle.words.specs.Rows.{row_length, cell}
use Rattle.words.proofs.Cells.{cut_none}
use Rattle.words.proofs.FoldLaws.{join_laws}
use Rattle.words.proofs.Cells.{lent_length, lent_word, lent_put}
use Rattle.words.proofs.parts.join_row.Goals as goal

pub fold_row-requires-clause-laws : goal.fold_row-requires-clause-laws
fold_row-requires-clause-laws c = join_laws

pub fold_row-requires-clause-room : goal.fold_row-requires-clause-room
fold_row-requires-clause-room c =
    let t = c.requires.0 in
    let a = c.args in
    (lent_length a.row a.dest.now t.whole t.inside, omega (arith, lent_length a.row a.from.now c.requires.1 t.inside), c.requires.2, c.requires.3)

pub returns : goal.returns
unfolding cell
returns c =
    let a = c.args in
    let t = c.requires.0 in
    let few : a.width ≤ row_length = ⊎_elim (λ e. omega arith) (λ e. omega arith) c.requires.3 in
    lent_put a.row a.dest.now t.whole t.inside _ c.requires.3 c.fold_row.ensures
    ∙ ap (λ (l : List ℕ). put_at (a.row * row_length) l a.dest.now)
    (list_over_eq (λ k h.
    ap (λ (x : ℕ). union x (join_of row_length a.named (λ i. cell a.table.now i k)))
    (ap (λ (x : ℕ). common x (first word_width)) (lent_word a.row a.from.now c.requires.1 t.inside k (omega arith))
    ∙ cut_none (cell a.from.now a.row k) (omega (arith, c.type_inv.from (a.row * row_length + k))))))
