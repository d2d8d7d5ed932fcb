-- Words cut to none are empty, so that only the named rows are left.
use mathlib.Core.Path.{ap, ◌∙◌}
use mathlib.Core.List.{List}
use Prim.Native.Nat.{ℕ, ◌*◌}
use lib.Bits.{and_zero_r, or_zero_l}
use native.Mathlib.Omega.{arith}
use lib.ListN.{get_or}
use Rattle.rules.specs.Word.{union}
use Rattle.rules.specs.Over.{join_of}
use Rattle.rules.proofs.Layers.{list_over_eq}
use Rattle.words.specs.Memory.{put_at}
use Rattle.words.specs.Rows.{row_length, cell}
use Rattle.words.proofs.FoldLaws.{join_laws}
use Rattle.words.proofs.Cells.{lent_length, lent_put}
use Rattle.words.proofs.parts.gather_row.Goals as goal

pub fold_row-requires-clause-laws : goal.fold_row-requires-clause-laws
fold_row-requires-clause-laws c = join_laws

pub fold_row-requires-clause-room : goal.fold_row-requires-clause-room
fold_row-requires-clause-room c =
    let t = c.requires.0 in
    (lent_length c.args.row c.args.dest.now t.whole t.inside, omega (arith, c.requires.1.whole), c.requires.1, c.requires.2)

pub returns : goal.returns
returns c =
    let a = c.args in
    let t = c.requires.0 in
    lent_put a.row a.dest.now t.whole t.inside _ c.requires.2 c.fold_row.ensures
    ∙ ap (λ (l : List ℕ). put_at (a.row * row_length) l a.dest.now)
    (list_over_eq (λ k h.
    let joined = join_of row_length a.named (λ i. cell a.table.now i k) in
    ap (λ (x : ℕ). union x joined) (and_zero_r (get_or a.table.now k 0)) ∙ or_zero_l joined))
