use mathlib.Core.Path.{refl}
use Prim.Native.Nat.{◌≤◌, ◌<◌}
use native.Mathlib.Omega.{arith}
use borrow.Author.Rules.{rules as simple}
use Rattle.words.proofs.Writes.{list_none, list_more, list_done}
use Rattle.build.proofs.Repeats.{repeat_word}
use Rattle.build.proofs.copies.copy_on.Goals as goal
use Rattle.build.proofs.copies.copy_on.Goals.{In-loop-i}

pub loop-i-init : goal.loop-i-init
loop-i-init c = list_none (omega arith)

-- there is a word to copy
near : (c : In-loop-i) → (0 < c.args.stride) × (c.args.stride ≤ c.args.to)
near c = c.requires.0 (omega arith)

pub overflow_sub-words : goal.overflow_sub-words
overflow_sub-words c = omega (arith, near (goal.at.overflow_sub-words c).In-loop-i)

pub bounds-words-to : goal.bounds-words-to
bounds-words-to c = omega (arith, near (goal.at.bounds-words-to c).In-loop-i)

pub loop-i-preserved : goal.loop-i-preserved
loop-i-preserved c =
    let s = c.loop-i.invariant in
    list_more s (search simple) refl (repeat_word s (near (goal.at.loop-i-preserved c).In-loop-i).1 _ (omega (arith, near (goal.at.loop-i-preserved c).In-loop-i)))

pub shape_of-words : goal.shape_of-words
shape_of-words c = c.loop-i.invariant.long

pub returns : goal.returns
returns c = list_done c.loop-i.invariant (search simple)
