use mathlib.Core.Path.{sym, ◌∙◌}
use Prim.Native.Nat.{◌-◌}
use native.Mathlib.Omega.{arith}
use Rattle.graph.proofs.Equals.{walked_none, walked_more, walked_found, walked_done}
use Rattle.graph.proofs.equal.Plain.equals_earlier.Goals as goal

pub loop-left-init : goal.loop-left-init
loop-left-init c = walked_none c.requires.2

pub same_sets-equal-requires : goal.same_sets-equal-requires
same_sets-equal-requires c =
    (omega (arith, c.loop-left.invariant.within, c.requires.0), c.requires.0)

pub returns-then-equal : goal.returns-then-equal
returns-then-equal c = walked_found c.loop-left.invariant (omega arith) (sym c.same_sets-equal.ensures ∙ c.if-equal.true)

pub bounds-befores-b : goal.bounds-befores-b
bounds-befores-b c =
    omega (arith, c.loop-left.invariant.within, c.requires.0, c.args.self.now.plain.0.actions, c.requires.1.room)

pub overflow_cast-left : goal.overflow_cast-left
overflow_cast-left c = omega (arith, c.shared_slice_known-in-loop-left-1.given (c.loop-left.left - 1))

pub loop-left-smaller : goal.loop-left-smaller
loop-left-smaller c =
    let loop = c.loop-left in
    omega (arith, (c.requires.1.each (loop.left - 1) (omega (arith, loop.invariant.within))).within)

pub loop-left-preserved : goal.loop-left-preserved
loop-left-preserved c =
    let loop = c.loop-left in
    walked_more loop.invariant (omega arith) (sym c.same_sets-equal.ensures ∙ c.if-equal.false)
    (c.requires.1.each (loop.left - 1) (omega (arith, loop.invariant.within)))

pub returns : goal.returns
returns c = walked_done c.loop-left.invariant (omega arith)
