-- The row is met from the label on.
use mathlib.Core.Path.{ap, ◌∙◌}
use Prim.Native.Nat.{ℕ, ◌*◌}
use lib.ListN.{get_or}
use Rattle.rules.specs.Word.{common}
use Rattle.rules.specs.Over.{meet_of}
use Rattle.rules.specs.Lists.{list_over}
use Rattle.words.specs.Memory.{put_at}
use Rattle.words.specs.Rows.{row_length, cell}
use Rattle.together.specs.Cells.{row_for}
use Rattle.together.proofs.Rows.{parts_le, parts_lt, row_put}
use Rattle.together.proofs.admit.admit_row.Goals as goal

pub label_of-label-requires : goal.label_of-label-requires
label_of-label-requires c =
    let pre = c.requires in
    record { whole = pre.t_long; inside = parts_lt pre.parts pre.needs }

pub meet_row-requires : goal.meet_row-requires
meet_row-requires c =
    let pre = c.requires in
    (record { whole = pre.r_long; inside = pre.inside }, pre.labels_long, record { whole = pre.t_long; inside = parts_lt pre.parts pre.needs }, pre.parts)

pub returns : goal.returns
unfolding row_for
returns c =
    let a = c.args in
    let label = c.label_of-label.ensures in (
      label,
      row_put c.requires.r_long c.requires.inside (parts_le c.requires.parts) (c.meet_row.ensures ∙ ap
          (λ (l : ℕ). put_at (a.i * row_length)
          (list_over a.width (λ q. meet_of row_length a.need (λ p. cell a.t.now p q) (common (get_or a.labels.now q 0) l))) a.r.now) label),
    )
