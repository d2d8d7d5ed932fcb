-- A list of another length has no total.
use mathlib.Core.Path.{◌≡◌}
use native.Mathlib.Omega.{arith}
use lib.ListN.{length}
use Rattle.rules.specs.Test.{choose}
use Rattle.rules.proofs.Tests.{same_of, same_not}
use Rattle.share.specs.Sums.{total_for}
use Rattle.share.proofs.weights.total_for.Goals as goal

pub returns-then-weights-states : goal.returns-then-weights-states
unfolding total_for choose
returns-then-weights-states c =
    let a = c.args in
    let other : length a.weights.now ≡ a.states → ⊥ = λ e. omega (arith, c.if-weights-states.true, e) in
    (simp (same_not other), omega arith)

pub returns : goal.returns
unfolding total_for choose
returns c =
    let a = c.args in
    let one_each : length a.weights.now ≡ a.states = omega (arith, c.if-weights-states.false) in
    (simp (same_of one_each, c.total.ensures.0), c.total.ensures.1)
