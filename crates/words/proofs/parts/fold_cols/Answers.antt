-- The part that is put was taken, and then the named rows with it.
use mathlib.Core.Path.{ap, ◌∙◌}
use mathlib.Core.List.{List}
use Prim.Native.Nat.{ℕ, ◌+◌}
use Rattle.words.specs.Memory.{put_at}
use Rattle.words.specs.Rows.{part_length, cell}
use Rattle.words.proofs.Writes.{list_through}
use Rattle.words.proofs.parts.fold_cols.Goals as goal

pub returns : goal.returns
returns g c =
    let a = c.args in
    c.put_part.ensures ∙ ap (λ (l : List ℕ). put_at a.col l a.row.now)
    (list_through part_length _ (λ k x. g.F.Fold.over a.named (λ i. cell a.table.now i (a.col + k)) x) c.take_part.ensures c.fold_parts.ensures)
