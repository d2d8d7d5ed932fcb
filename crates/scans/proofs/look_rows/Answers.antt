use mathlib.Core.Path.{refl, sym, ap, subst, ◌∙◌}
use Prim.Native.Nat.{ℕ, ◌^◌, ◌<◌}
use native.Mathlib.Omega.{arith}
use lib.Count.{ones-le}
use Rattle.rules.specs.Word.{single}
use Rattle.rules.specs.Scan.{scan_at}
use Rattle.rules.proofs.Words.{without_lt}
use Rattle.words.specs.Rows.{row_length, cell}
use Rattle.scans.proofs.Looks.{low_lt, last_le}
use Rattle.scans.proofs.RowLoops.{rowing_none, rowing_more, rowing_last, rowing_room, rowing_done, rowing_ended}
use Rattle.scans.proofs.look_rows.Goals as goal
use Rattle.scans.proofs.look_rows.Goals.{Else-left-eq0}

pub loop-v-init : goal.loop-v-init
loop-v-init c = rw c.into_iter-v-iterator.ensures.into_iter_gives (rowing_none c.requires.1)

pub returns-then-left-eq0 : goal.returns-then-left-eq0
returns-then-left-eq0 c =
    let m = c.loop-v.invariant in
    (rowing_ended m c.requires.2 c.if-left-eq0.true, omega (arith, rowing_room m, c.requires.4))

inside : (c : Else-left-eq0) → c.in-Some.v < row_length
inside c = let t = c.in-Some.ensures.steps in low_lt c.loop-v.invariant.small t.some t.is

pub overflow_mul-after : goal.overflow_mul-after
overflow_mul-after c = omega (arith, inside (goal.at.overflow_mul-after c).Else-left-eq0)

pub overflow_add-after : goal.overflow_add-after
overflow_add-after c = omega (arith, inside (goal.at.overflow_add-after c).Else-left-eq0, c.requires.0)

pub offset_bounds-tables-v : goal.offset_bounds-tables-v
offset_bounds-tables-v c = omega (arith, inside (goal.at.offset_bounds-tables-v c).Else-left-eq0, c.requires.0)

pub bounds-tables-v : goal.bounds-tables-v
bounds-tables-v c =
    omega (arith, inside (goal.at.bounds-tables-v c).Else-left-eq0, c.requires.0)

pub overflow_mul-v : goal.overflow_mul-v
overflow_mul-v c = omega (arith, inside (goal.at.overflow_mul-v c).Else-left-eq0)

pub all_but-requires : goal.all_but-requires
all_but-requires c = inside (goal.at.all_but-requires c).Else-left-eq0

pub look_at-seen-requires : goal.look_at-seen-requires
look_at-seen-requires c = (
  subst (λ (x : ℕ). x < 2 ^ row_length) (sym c.all_but.ensures) (without_lt row_length (single c.in-Some.v) c.requires.2),
  λ i l. omega (arith, inside (goal.at.look_at-seen-requires c).Else-left-eq0),
  omega (arith, rowing_room c.loop-v.invariant, c.requires.4),
)

pub with_last-requires : goal.with_last-requires
with_last-requires c =
    omega (arith, c.look_at-seen.ensures.1, rowing_room c.loop-v.invariant, c.requires.4)

pub returns-then-after-eq0 : goal.returns-then-after-eq0
unfolding cell
returns-then-after-eq0 c =
    let t = c.in-Some.ensures.steps in
    let m = c.loop-v.invariant in (
      λ r b p. rowing_last m c.requires.2 t.some t.is c.all_but.ensures c.if-after-eq0.true
          c.look_at-seen.ensures.0 r b p
          ∙ sym (ap (scan_at 0) c.with_last.ensures),
      omega (arith, c.with_last.ensures, last_le (scan_at c.look_at-seen.result.left c.look_at-seen.result.looked), c.look_at-seen.ensures.1, rowing_room m, c.requires.4),
    )

pub others_than-looked-requires : goal.others_than-looked-requires
others_than-looked-requires c =
    (inside (goal.at.others_than-looked-requires c).Else-left-eq0, c.requires.2, c.requires.3)

pub overflow_add-looked : goal.overflow_add-looked
overflow_add-looked c =
    omega (arith, c.others_than-looked.ensures, ones-le row_length _ (without_lt row_length (single c.in-Some.v) c.requires.2), rowing_room c.loop-v.invariant, c.requires.4)

pub loop-v-preserved : goal.loop-v-preserved
unfolding cell
loop-v-preserved c =
    let t = c.in-Some.ensures.steps in
    rowing_more c.loop-v.invariant c.requires.2 t.some t.is t.others refl
    c.if-after-eq0.false c.others_than-looked.ensures refl

pub returns : goal.returns
returns c =
    let m = c.loop-v.invariant in (rowing_done m (omega (arith, c.in-None.ensures.steps.0)), omega (arith, rowing_room m, c.requires.4))
