use mathlib.Core.Path.{refl}
use Prim.Native.Nat.{◌+◌, ◌*◌, ◌<◌}
use native.Mathlib.Omega.{arith}
use lib.ListN.{length}
use Rattle.scans.proofs.Looks.{low_lt, looking_none, looking_more, looking_room, looking_done, looking_ended}
use Rattle.scans.proofs.look_at.Goals as goal
use Rattle.scans.proofs.look_at.Goals.{Else-left-eq0}

pub loop-i-init : goal.loop-i-init
loop-i-init c = rw c.into_iter-i-iterator.ensures.into_iter_gives (looking_none c.requires.0)

pub returns-then-left-eq0 : goal.returns-then-left-eq0
returns-then-left-eq0 c = let m = c.loop-i.invariant in (looking_ended m c.if-left-eq0.true, looking_room m)

-- the word that is read lies in the table
here : (c : Else-left-eq0) → c.args.base + c.in-Some.i * c.args.step < length c.args.table.now
here c = let t = c.in-Some.ensures.steps in c.requires.1 c.in-Some.i (low_lt c.loop-i.invariant.scan.small t.some t.is)

pub overflow_mul-left : goal.overflow_mul-left
overflow_mul-left c = omega (arith, here (goal.at.overflow_mul-left c).Else-left-eq0)

pub overflow_add-left : goal.overflow_add-left
overflow_add-left c = omega (arith, here (goal.at.overflow_add-left c).Else-left-eq0)

pub offset_bounds-table-base : goal.offset_bounds-table-base
offset_bounds-table-base c = omega (arith, here (goal.at.offset_bounds-table-base c).Else-left-eq0)

pub bounds-table-base : goal.bounds-table-base
bounds-table-base c = here (goal.at.bounds-table-base c).Else-left-eq0

pub overflow_add-looked : goal.overflow_add-looked
overflow_add-looked c = omega (arith, looking_room c.loop-i.invariant, c.requires.2)

pub loop-i-preserved : goal.loop-i-preserved
loop-i-preserved c =
    let t = c.in-Some.ensures.steps in
    looking_more c.loop-i.invariant t.some (omega arith) t.is t.others refl refl

pub returns : goal.returns
returns c = let m = c.loop-i.invariant in (looking_done m (omega (arith, c.in-None.ensures.steps.0)), looking_room m)
