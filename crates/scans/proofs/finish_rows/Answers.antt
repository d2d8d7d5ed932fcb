use mathlib.Core.Path.{refl}
use Prim.Native.Nat.{◌+◌, ◌-◌, ◌≤◌}
use native.Mathlib.Omega.{arith}
use lib.ListN.{length}
use Rattle.rules.proofs.Layers.{labels_in}
use Rattle.words.proofs.Writes.{run_none, run_done}
use Rattle.scans.specs.Pairs.{table_looks}
use Rattle.scans.proofs.Totals.{summing_none, summing_more, summing_all}
use Rattle.scans.proofs.Ends.{joined_none, joined_more, joined_done, rows_room, rows_more}
use Rattle.scans.proofs.finish_rows.Goals as goal
use Rattle.scans.proofs.finish_rows.Goals.{In-loop-p}

-- the row has room
room : (c : In-loop-p) → c.loop-p.at + (length c.args.adders.now - 1 - c.loop-p.p) ≤ length c.args.words.now
room c = let inv = c.loop-p.invariant in
    rows_room inv.0 c.loop-p-test.true c.requires.0.few c.args.labels.now inv.1 c.requires.2

pub loop-p-init : goal.loop-p-init
loop-p-init c =
    (joined_none c.requires.1.t_long, run_none (omega (arith, labels_in (length c.args.adders.now))), summing_none (omega arith))

pub overflow_sub-at : goal.overflow_sub-at
overflow_sub-at c = omega (arith, c.loop-p.invariant.1.here)

pub overflow_sub-at-in-loop-p : goal.overflow_sub-at-in-loop-p
overflow_sub-at-in-loop-p c = omega (arith, c.loop-p.invariant.1.here)

pub finish_row-row-requires : goal.finish_row-row-requires
finish_row-row-requires c =
    let inv = c.loop-p.invariant in (
      c.requires.0,
      record { labels_long = c.requires.1.labels_long; t_long = inv.0.long },
      omega arith,
      omega (arith, room (goal.at.finish_row-row-requires c).In-loop-p, inv.1.long, inv.1.here),
    )

pub overflow_add-looked : goal.overflow_add-looked
overflow_add-looked c = let m = c.loop-p.invariant.2 in omega (arith, m.few, m.within, c.finish_row-row.ensures.3, c.requires.0.few)

pub overflow_add-at : goal.overflow_add-at
overflow_add-at c = omega (arith, room (goal.at.overflow_add-at c).In-loop-p)

pub overflow_step-p : goal.overflow_step-p
overflow_step-p c = omega (arith, c.requires.0.few)

pub loop-p-preserved : goal.loop-p-preserved
loop-p-preserved c =
    let inv = c.loop-p.invariant in
    let row = c.finish_row-row in
    let did = row.ensures in
    let few = c.requires.0.few in (
      joined_more inv.0 (omega arith) few did.0 refl,
      rows_more inv.0 (omega arith) few c.args.labels.now inv.1 c.requires.2 {w' = row.new.words} refl did.1,
      summing_more inv.2 (omega arith) did.2 did.3,
    )

pub shape_of-words : goal.shape_of-words
shape_of-words c = c.loop-p.invariant.1.long

pub shape_of-t : goal.shape_of-t
shape_of-t c = omega (arith, c.loop-p.invariant.0.long, c.requires.1.t_long)

pub returns : goal.returns
unfolding table_looks
returns c =
    let inv = c.loop-p.invariant in
    let m = inv.2 in (
      joined_done inv.0 m.within (omega arith),
      run_done inv.1 (omega arith),
      λ A. summing_all m refl (omega arith) A,
      omega (arith, m.few, m.within, c.requires.0.few),
    )
