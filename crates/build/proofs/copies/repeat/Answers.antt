use Prim.Native.Nat.{◌+◌, ◌-◌, ◌≤◌, ◌<◌}
use mathlib.Core.Logic.{by_cases}
use native.Mathlib.Decide.{dec_le}
use native.Mathlib.Omega.{arith}
use lib.ListN.{length}
use Rattle.std.proofs.Common.{Fits, w64}
use Rattle.build.proofs.Repeats.{again_none, again_more, again_done}
use Rattle.build.proofs.copies.repeat.Goals as goal
use Rattle.build.proofs.copies.repeat.Goals.{After-min, At-loop-done}

-- where a copy ends fits a word
room : (c : At-loop-done) → Fits w64 (c.loop-done.done + c.args.stride)
room c =
    by_cases (dec_le 1 c.args.count) (λ h. omega (arith, c.loop-done.invariant.within, c.requires.0 h)) (λ h. omega (arith, c.loop-done.invariant.within))

pub loop-done-init : goal.loop-done-init
loop-done-init c = again_none

pub overflow_add-done : goal.overflow_add-done
overflow_add-done c =
    room (goal.at.overflow_add-done c).At-loop-done

pub overflow_sub-count : goal.overflow_sub-count
overflow_sub-count c = c.loop-done.invariant.within

pub overflow_add-to : goal.overflow_add-to
overflow_add-to c = omega (arith, c.loop-done.invariant.within)

pub overflow_add-done-in-loop-done : goal.overflow_add-done-in-loop-done
overflow_add-done-in-loop-done c = omega (arith, room (goal.at.overflow_add-done-in-loop-done c).At-loop-done)

pub overflow_add-done-in-loop-done-2 : goal.overflow_add-done-in-loop-done-2
overflow_add-done-in-loop-done-2 c = omega (arith, room (goal.at.overflow_add-done-in-loop-done-2 c).At-loop-done)

-- all words that are written fit again
fits : (c : After-min) → let a = c.args in
    c.loop-done.done + a.stride < c.min.result → c.loop-done.done + (c.loop-done.done + a.stride) < a.count
fits c h = omega (arith, c.min.ensures, c.loop-done.invariant.within)

pub copy_on-requires : goal.copy_on-requires
copy_on-requires c =
    let more = fits (goal.at.copy_on-requires c).After-min c.loop-done-test.true in
    let near = c.requires.0 (omega arith) in
    (λ _. (omega (arith, near), omega (arith, near)), omega (arith, c.loop-done.invariant.long))

pub overflow_add-done-in-loop-done-3 : goal.overflow_add-done-in-loop-done-3
overflow_add-done-in-loop-done-3 c = omega (arith, room (goal.at.overflow_add-done-in-loop-done-3 c).At-loop-done)

pub overflow_add-done-in-loop-done-4 : goal.overflow_add-done-in-loop-done-4
overflow_add-done-in-loop-done-4 c = omega (arith, room (goal.at.overflow_add-done-in-loop-done-4 c).At-loop-done, fits (goal.at.overflow_add-done-in-loop-done-4 c).After-min c.loop-done-test.true)

pub loop-done-smaller : goal.loop-done-smaller
loop-done-smaller c =
    let more = fits (goal.at.loop-done-smaller c).After-min c.loop-done-test.true in
    omega (arith, c.requires.0 (omega arith))

pub loop-done-preserved : goal.loop-done-preserved
loop-done-preserved c =
    again_more c.loop-done.invariant c.requires.0 c.requires.1 (fits (goal.at.loop-done-preserved c).After-min c.loop-done-test.true) c.copy_on.ensures

pub overflow_add-done-2 : goal.overflow_add-done-2
overflow_add-done-2 c = omega (arith, room (goal.at.overflow_add-done-2 c).At-loop-done)

pub overflow_add-to-then-done-stride-lt-APART : goal.overflow_add-to-then-done-stride-lt-APART
overflow_add-to-then-done-stride-lt-APART c = omega (arith, c.loop-done.invariant.within)

pub overflow_add-done-then-done-stride-lt-APART : goal.overflow_add-done-then-done-stride-lt-APART
overflow_add-done-then-done-stride-lt-APART c = omega (arith, room (goal.at.overflow_add-done-then-done-stride-lt-APART c).At-loop-done)

pub overflow_sub-count-then-done-stride-lt-APART : goal.overflow_sub-count-then-done-stride-lt-APART
overflow_sub-count-then-done-stride-lt-APART c = c.loop-done.invariant.within

-- what is left fits, and stands behind what it is copied from
left : (c : At-loop-done) → let a = c.args in let done = c.loop-done.done in
    (0 < a.count - done → (0 < done + a.stride) × (done + a.stride ≤ a.to + done)) × (a.to + done + (a.count - done) ≤ length c.loop-done.words)
left c = let inv = c.loop-done.invariant in
    ((λ h. let near = c.requires.0 (omega arith) in (omega (arith, near), omega (arith, near))), omega (arith, inv.long, inv.within))

pub copy_on-requires-then-done-stride-lt-APART : goal.copy_on-requires-then-done-stride-lt-APART
copy_on-requires-then-done-stride-lt-APART c = left (goal.at.copy_on-requires-then-done-stride-lt-APART c).At-loop-done

pub shape_of-words-then-done-stride-lt-APART : goal.shape_of-words-then-done-stride-lt-APART
shape_of-words-then-done-stride-lt-APART c = omega (arith, c.copy_on-then-done-stride-lt-APART.auto.words, c.loop-done.invariant.long)

pub returns-then-done-stride-lt-APART : goal.returns-then-done-stride-lt-APART
returns-then-done-stride-lt-APART c = again_done c.loop-done.invariant c.requires.0 c.requires.1 c.copy_on-then-done-stride-lt-APART.ensures

pub overflow_add-to-2 : goal.overflow_add-to-2
overflow_add-to-2 c = omega (arith, c.loop-done.invariant.within)

pub overflow_add-done-3 : goal.overflow_add-done-3
overflow_add-done-3 c = omega (arith, room (goal.at.overflow_add-done-3 c).At-loop-done)

pub overflow_sub-count-2 : goal.overflow_sub-count-2
overflow_sub-count-2 c = c.loop-done.invariant.within

pub copy_far-requires : goal.copy_far-requires
copy_far-requires c = let l = left (goal.at.copy_far-requires c).At-loop-done in (omega arith, (λ h. (l.0 h).1), l.1)

pub shape_of-words : goal.shape_of-words
shape_of-words c = omega (arith, c.copy_far.auto.words, c.loop-done.invariant.long)

pub returns : goal.returns
returns c = again_done c.loop-done.invariant c.requires.0 c.requires.1 c.copy_far.ensures
