use mathlib.Core.Path.{◌≡◌, refl, ap}
use Prim.Native.Nat.{◌+◌, ◌*◌, ◌≤◌, ◌<◌}
use native.Mathlib.Omega.{arith}
use lib.ListN.{length, get_or}
use lib.Seq.{lt-length-set}
use Rattle.rules.specs.Word.{common, without}
use Rattle.rules.specs.Layer.{row_of}
use Rattle.words.specs.Rows.{row_length, table_length, cell, both_ways}
use Rattle.words.proofs.Writes.{list_done}
use Rattle.scans.specs.Pairs.{pair_count, row_count}
use Rattle.scans.specs.Ends.{apart_by}
use Rattle.scans.proofs.Totals.{summing_none, summing_more, summing_done}
use Rattle.scans.proofs.Ends.{crossed_none, crossed_more, crossed_done, row_none, row_more}
use Rattle.scans.proofs.finish_row.Goals as goal
use Rattle.scans.proofs.finish_row.Goals.{In-loop-q}

-- what is known in the loop
known : (c : In-loop-q) → (c.loop-q.q < length c.args.adders.now) × (length c.args.adders.now ≤ row_length) × (c.args.p < c.loop-q.q)
    × (length c.args.labels.now ≡ row_length) × (length c.args.tables.now.spare ≡ table_length) × (length c.loop-q.t ≡ table_length)
    × (c.args.at + length c.args.adders.now ≤ length c.loop-q.words)
known c =
    let inv = c.loop-q.invariant in
    (omega arith, c.requires.0.few, omega (arith, inv.2.low), c.requires.1.labels_long, omega arith, inv.0.long, omega (arith, inv.1.long))

pub overflow_step-q : goal.overflow_step-q
overflow_step-q c = omega (arith, c.requires.2)

pub loop-q-init : goal.loop-q-init
loop-q-init c =
    let a = c.args in
    (crossed_none c.requires.1.t_long, row_none a.at a.p (length a.adders.now) _ c.requires.2 c.requires.3, summing_none (omega arith))

pub offset_bounds-labels-p : goal.offset_bounds-labels-p
offset_bounds-labels-p c = omega (arith, known (goal.at.offset_bounds-labels-p c).In-loop-q)

pub bounds-labels-p : goal.bounds-labels-p
bounds-labels-p c = omega (arith, known (goal.at.bounds-labels-p c).In-loop-q)

pub offset_bounds-labels-q : goal.offset_bounds-labels-q
offset_bounds-labels-q c = omega (arith, known (goal.at.offset_bounds-labels-q c).In-loop-q)

pub bounds-labels-q : goal.bounds-labels-q
bounds-labels-q c = omega (arith, known (goal.at.bounds-labels-q c).In-loop-q)

pub overflow_mul-shown : goal.overflow_mul-shown
overflow_mul-shown c = omega (arith, known (goal.at.overflow_mul-shown c).In-loop-q)

pub overflow_add-shown : goal.overflow_add-shown
overflow_add-shown c = omega (arith, known (goal.at.overflow_add-shown c).In-loop-q)

pub offset_bounds-tables-p : goal.offset_bounds-tables-p
offset_bounds-tables-p c = omega (arith, known (goal.at.offset_bounds-tables-p c).In-loop-q)

pub bounds-tables-p : goal.bounds-tables-p
bounds-tables-p c = omega (arith, known (goal.at.bounds-tables-p c).In-loop-q)

pub overflow_mul-shown-in-loop-q : goal.overflow_mul-shown-in-loop-q
overflow_mul-shown-in-loop-q c = omega (arith, known (goal.at.overflow_mul-shown-in-loop-q c).In-loop-q)

pub overflow_add-shown-in-loop-q : goal.overflow_add-shown-in-loop-q
overflow_add-shown-in-loop-q c = omega (arith, known (goal.at.overflow_add-shown-in-loop-q c).In-loop-q)

pub offset_bounds-tables-q : goal.offset_bounds-tables-q
offset_bounds-tables-q c = omega (arith, known (goal.at.offset_bounds-tables-q c).In-loop-q)

pub bounds-tables-q : goal.bounds-tables-q
bounds-tables-q c = omega (arith, known (goal.at.bounds-tables-q c).In-loop-q)

pub overflow_mul-old : goal.overflow_mul-old
overflow_mul-old c = omega (arith, known (goal.at.overflow_mul-old c).In-loop-q)

pub overflow_add-old : goal.overflow_add-old
overflow_add-old c = omega (arith, known (goal.at.overflow_add-old c).In-loop-q)

pub offset_bounds-t-p : goal.offset_bounds-t-p
offset_bounds-t-p c = omega (arith, known (goal.at.offset_bounds-t-p c).In-loop-q)

pub bounds-t-p : goal.bounds-t-p
bounds-t-p c = omega (arith, known (goal.at.bounds-t-p c).In-loop-q)

pub overflow_mul-t : goal.overflow_mul-t
overflow_mul-t c = omega (arith, known (goal.at.overflow_mul-t c).In-loop-q)

pub overflow_add-t : goal.overflow_add-t
overflow_add-t c = omega (arith, known (goal.at.overflow_add-t c).In-loop-q)

pub offset_bounds-t-p-in-loop-q : goal.offset_bounds-t-p-in-loop-q
offset_bounds-t-p-in-loop-q c = omega (arith, known (goal.at.offset_bounds-t-p-in-loop-q c).In-loop-q)

pub bounds-t-p-in-loop-q : goal.bounds-t-p-in-loop-q
bounds-t-p-in-loop-q c = omega (arith, known (goal.at.bounds-t-p-in-loop-q c).In-loop-q)

pub overflow_mul-t-in-loop-q : goal.overflow_mul-t-in-loop-q
overflow_mul-t-in-loop-q c = omega (arith, known (goal.at.overflow_mul-t-in-loop-q c).In-loop-q)

pub overflow_add-t-in-loop-q : goal.overflow_add-t-in-loop-q
overflow_add-t-in-loop-q c = omega (arith, known (goal.at.overflow_add-t-in-loop-q c).In-loop-q)

pub offset_bounds-t-q : goal.offset_bounds-t-q
offset_bounds-t-q c = omega (arith, known (goal.at.offset_bounds-t-q c).In-loop-q)

pub bounds-t-q : goal.bounds-t-q
bounds-t-q c =
    let loop = c.loop-q in
    let inside : loop.q * row_length + c.args.p < length loop.t = omega (arith, known (goal.at.bounds-t-q c).In-loop-q) in
    lt-length-set loop.t _ _ inside

pub overflow_add-words : goal.overflow_add-words
overflow_add-words c = omega (arith, known (goal.at.overflow_add-words c).In-loop-q)

pub offset_bounds-words-at : goal.offset_bounds-words-at
offset_bounds-words-at c = omega (arith, known (goal.at.offset_bounds-words-at c).In-loop-q)

pub bounds-words-at : goal.bounds-words-at
bounds-words-at c = omega (arith, known (goal.at.bounds-words-at c).In-loop-q)

pub pair_looks-looked-requires : goal.pair_looks-looked-requires
pair_looks-looked-requires c = (c.requires.0, c.requires.2, omega arith)

pub overflow_add-looked : goal.overflow_add-looked
overflow_add-looked c = let m = c.loop-q.invariant.2 in omega (arith, m.few, m.within, c.pair_looks-looked.ensures.1, known (goal.at.overflow_add-looked c).In-loop-q)

pub overflow_step-q-in-loop-q : goal.overflow_step-q-in-loop-q
overflow_step-q-in-loop-q c = omega (arith, known (goal.at.overflow_step-q-in-loop-q c).In-loop-q)

pub loop-q-smaller : goal.loop-q-smaller
loop-q-smaller c = omega (arith, known (goal.at.loop-q-smaller c).In-loop-q)

pub loop-q-preserved : goal.loop-q-preserved
unfolding cell both_ways pair_count apart_by
loop-q-preserved c =
    let inv = c.loop-q.invariant in
    let a = c.args in
    let q = c.loop-q.q in
    let (l, few, pq, _, _, _, _) = known (goal.at.loop-q-preserved c).In-loop-q in
    let (table, is) = crossed_more inv.0 pq (omega arith) refl refl refl refl refl in (
      table,
      row_more a.at a.p q (length a.adders.now) (apart_by a.labels.now a.tables.now.spare a.t.now a.p) inv.1 pq l refl
          (ap (without (common (get_or a.labels.now a.p 0) (get_or a.labels.now q 0))) is),
      summing_more inv.2 l (λ A. c.pair_looks-looked.ensures.0 a.tables.now.spare A refl) c.pair_looks-looked.ensures.1,
    )

pub shape_of-words : goal.shape_of-words
shape_of-words c = c.loop-q.invariant.1.long

pub shape_of-t : goal.shape_of-t
shape_of-t c = omega (arith, c.loop-q.invariant.0.long, c.requires.1.t_long)

pub returns : goal.returns
unfolding row_of row_count
returns c =
    let inv = c.loop-q.invariant in
    (crossed_done inv.0 inv.2.within (omega arith), list_done inv.1 (omega arith), λ A. summing_done inv.2 (omega arith) (omega arith) A, omega (arith, inv.2.few, inv.2.within, c.requires.0.few))
