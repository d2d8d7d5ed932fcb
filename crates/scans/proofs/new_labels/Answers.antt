use mathlib.Core.Path.{refl, sym}
use native.Mathlib.Nat.{zero-add}
use native.Mathlib.Omega.{arith}
use Rattle.words.specs.Rows.{cell}
use Rattle.words.proofs.Writes.{list_none, list_more, list_done}
use Rattle.scans.proofs.Ends.{owned_none, owned_more, owned_done}
use Rattle.scans.proofs.new_labels.Goals as goal

pub loop-p-init : goal.loop-p-init
loop-p-init c = (owned_none c.requires.3, list_none (omega arith), list_none (omega arith))

pub bounds-t-p : goal.bounds-t-p
bounds-t-p c = omega (arith, c.loop-p.invariant.0.long)

pub bounds-t-p-in-loop-p : goal.bounds-t-p-in-loop-p
bounds-t-p-in-loop-p c = omega (arith, c.loop-p.invariant.0.long)

pub bounds-labels-p : goal.bounds-labels-p
bounds-labels-p c = omega (arith, c.loop-p.invariant.1.long)

pub bounds-words-p : goal.bounds-words-p
bounds-words-p c = omega (arith, c.loop-p.invariant.2.long)

pub loop-p-preserved : goal.loop-p-preserved
unfolding cell
loop-p-preserved c =
    let inv = c.loop-p.invariant in
    let (table, is) = owned_more inv.0 (omega arith) refl refl refl refl in
    (table, list_more inv.1 (omega arith) (sym (zero-add _)) is, list_more inv.2 (omega arith) (sym (zero-add _)) is)

pub shape_of-words : goal.shape_of-words
shape_of-words c = c.loop-p.invariant.2.long

pub shape_of-labels : goal.shape_of-labels
shape_of-labels c = c.loop-p.invariant.1.long

pub shape_of-t : goal.shape_of-t
shape_of-t c = omega (arith, c.loop-p.invariant.0.long)

pub returns : goal.returns
returns c =
    let inv = c.loop-p.invariant in
    (owned_done inv.0 inv.1.within (omega arith), list_done inv.1 (omega arith), list_done inv.2 (omega arith))
