use mathlib.Core.Path.{refl, ap}
use native.Mathlib.Omega.{arith}
use Rattle.words.proofs.FoldLaws.{taken_lt, folded_none, folded_more, folded_done}
use Rattle.words.proofs.MemberLoops.{lanes_more, lanes_done}
use Rattle.words.proofs.Cells.{cell_at}
use Rattle.words.proofs.parts.fold_parts.Goals as goal

pub loop-i-init : goal.loop-i-init
loop-i-init g c = rw c.into_iter-i-iterator.ensures.into_iter_gives record { long = omega arith; is = λ k h. folded_none c.requires.room.1.inside }

pub overflow_mul-i : goal.overflow_mul-i
overflow_mul-i g c = omega (arith, taken_lt c.in-Some.ensures.steps (c.loop-i.invariant.is 0 (omega arith)).inside)

pub overflow_add-i : goal.overflow_add-i
overflow_add-i g c = omega (arith, taken_lt c.in-Some.ensures.steps (c.loop-i.invariant.is 0 (omega arith)).inside, c.requires.room.2)

pub fold_part-requires : goal.fold_part-requires
fold_part-requires g c = (
  c.loop-i.invariant.long,
  omega (arith, taken_lt c.in-Some.ensures.steps (c.loop-i.invariant.is 0 (omega arith)).inside, c.requires.room.2, c.requires.room.1.whole),
)

pub loop-i-preserved : goal.loop-i-preserved
loop-i-preserved g c =
    let a = c.args in
    lanes_more c.loop-i.invariant
    (λ k s. folded_more c.requires.laws s c.in-Some.ensures.steps (ap (g.F.Fold.op _) (cell_at a.table.now c.in-Some.i a.col k refl))) c.fold_part.ensures

pub returns : goal.returns
returns g c = lanes_done c.loop-i.invariant (λ k s. folded_done c.requires.laws s c.in-None.ensures.steps.0)
