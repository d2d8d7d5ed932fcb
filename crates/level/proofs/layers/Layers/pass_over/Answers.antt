use Prim.Native.Nat.{◌+◌, ◌*◌, ◌<◌}
use native.Mathlib.Omega.{arith}
use borrow.Author.Rules.{rules}
use lib.ListN.{length}
use Rattle.level.proofs.Parts.{passing_none, passing_more, passing_in, passing_done}
use Rattle.level.proofs.layers.Layers.pass_over.Goals as goal
use Rattle.level.proofs.layers.Layers.pass_over.Goals.{In-loop-t}

-- the place in layer t lies within the words
inside : (c : In-loop-t) → c.loop-t.t * c.stride-step.result + c.args.place < length c.args.self.now.words.now
inside c = passing_in c.args.self.now.room c.stride-step.ensures.0 (search rules) (omega arith)

pub loop-t-init : goal.loop-t-init
loop-t-init c = passing_none (omega arith)

pub overflow_add-t : goal.overflow_add-t
overflow_add-t c = omega (arith, inside (goal.at.overflow_add-t c).In-loop-t)

pub offset_bounds-self-t : goal.offset_bounds-self-t
offset_bounds-self-t c = omega (arith, inside (goal.at.offset_bounds-self-t c).In-loop-t)

pub bounds-self-t : goal.bounds-self-t
bounds-self-t c = inside (goal.at.bounds-self-t c).In-loop-t

pub returns-then-self-t : goal.returns-then-self-t
returns-then-self-t c = passing_done c.loop-t.invariant c.stride-step.ensures.0 c.requires.1

pub loop-t-preserved : goal.loop-t-preserved
loop-t-preserved c = passing_more c.loop-t.invariant (omega arith) c.if-self-t.false

pub returns : goal.returns
returns c = passing_done c.loop-t.invariant c.stride-step.ensures.0 c.requires.1
