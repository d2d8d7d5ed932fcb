-- Each branch is one side of the choice.
use mathlib.Core.Path.{sym, ◌∙◌}
use native.Mathlib.Omega.{arith}
use Rattle.rules.specs.Over.{keep}
use Rattle.rules.proofs.Tests.{choose_held, choose_failed, and_of, and_left, and_right, fails_of, fails_at, is_fails, same_of, same_at}
use Rattle.together.specs.Interference.{interfere_in}
use Rattle.together.proofs.interference.interferer.Goals as goal

pub returns-then-not-either_clobbers : goal.returns-then-not-either_clobbers
unfolding keep interfere_in
returns-then-not-either_clobbers c = sym (choose_failed _ _ (fails_of (λ t.
    fails_at (is_fails (sym c.either_clobbers.ensures ∙ c.if-not-either_clobbers.true)) (and_right _ t))))

pub returns-then-sets-i : goal.returns-then-sets-i
unfolding keep interfere_in
returns-then-sets-i c = sym (choose_failed _ _ (fails_of (λ t. fails_at (and_left _ t) (same_of (omega arith)))))

pub returns : goal.returns
unfolding keep interfere_in
returns c = c.single.ensures ∙ sym (choose_held _ (and_of (fails_of (λ e. omega (arith, same_at e)))
    (sym c.either_clobbers.ensures ∙ c.if-not-either_clobbers.false)))
