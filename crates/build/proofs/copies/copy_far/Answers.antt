use Prim.Native.Nat.{◌-◌}
use native.Mathlib.Omega.{arith}
use Rattle.words.proofs.Writes.{list_none, list_done}
use Rattle.build.specs.Steps.{block_length}
use Rattle.build.proofs.Repeats.{repeat_block}
use Rattle.build.proofs.copies.copy_far.Goals as goal

pub loop-done-init : goal.loop-done-init
loop-done-init c = list_none (omega arith)

pub overflow_add-done : goal.overflow_add-done
overflow_add-done c = omega (arith, c.loop-done.invariant.within)

pub move_block-requires : goal.move_block-requires
move_block-requires c =
    (omega arith, (λ h. omega (arith, c.requires.1 (omega arith))), omega (arith, c.loop-done.invariant.long))

pub loop-done-preserved : goal.loop-done-preserved
loop-done-preserved c =
    repeat_block c.loop-done.invariant block_length (omega arith) (omega arith) (λ _. c.requires.1 (omega arith)) c.move_block.ensures

pub overflow_add-to-2 : goal.overflow_add-to-2
overflow_add-to-2 c = omega (arith, c.loop-done.invariant.within)

pub overflow_sub-count : goal.overflow_sub-count
overflow_sub-count c = c.loop-done.invariant.within

pub move_block-requires-2 : goal.move_block-requires-2
move_block-requires-2 c =
    let s = c.loop-done.invariant in
    (omega arith, (λ h. omega (arith, c.requires.1 (omega arith))), omega (arith, s.long, s.within))

pub shape_of-words : goal.shape_of-words
shape_of-words c = omega (arith, c.move_block-2.auto.words, c.loop-done.invariant.long)

pub returns : goal.returns
returns c =
    let s = c.loop-done.invariant in
    list_done (repeat_block s (c.args.count - c.loop-done.done) (omega arith) (omega (arith, s.within)) (λ h. c.requires.1 (omega arith)) c.move_block-2.ensures) (omega arith)
