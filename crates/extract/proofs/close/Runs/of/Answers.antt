-- Near and far are below the width by the remainder; whether they are what all states have to go is asked where they are used.
use native.Mathlib.Omega.{arith}
use lib.Count.{leading_le, ones-le}
use Rattle.words.specs.Width.{state_width}
use Rattle.extract.proofs.close.Runs.of.Goals as goal

pub overflow_cast-above : goal.overflow_cast-above
overflow_cast-above c = omega (arith, leading_le state_width c.args.set.0)

pub overflow_cast-members : goal.overflow_cast-members
overflow_cast-members c = omega (arith, ones-le state_width c.args.set.0 (omega arith))

pub overflow_sub-far : goal.overflow_sub-far
overflow_sub-far c = omega (arith, leading_le state_width c.args.set.0)

pub overflow_sub-far-2 : goal.overflow_sub-far-2
overflow_sub-far-2 c =
    let set = c.args.set.0 in
    omega (arith, leading_le state_width set, ones-le state_width set (omega arith))
