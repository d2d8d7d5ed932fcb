-- The words of these propositions are met with the set.
use Prim.Native.Nat.{ℕ}
use mathlib.Core.Path.{ap₂, ◌∙◌}
use lib.ListN.{get_or}
use Rattle.rules.specs.Over.{meet_of}
use Rattle.run.specs.Fire.{having}
use Rattle.run.proofs.fire.having.Goals as goal

pub returns : goal.returns
unfolding having
returns c =
    let a = c.args in
    c.meet_at.ensures
    ∙ ap₂ (λ (n x : ℕ). meet_of n x (λ p. get_or a.labels.now p 0) a.set.0) c.told-labels c.wide.ensures
