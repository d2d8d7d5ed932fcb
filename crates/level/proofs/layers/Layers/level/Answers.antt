-- The first layer that meets the goal decides the answer.
use mathlib.Core.Path.{ap, ◌∙◌}
use Prim.Native.Nat.{ℕ}
use Rattle.rules.specs.Level.{level_by, level_of}
use Rattle.level.proofs.layers.Layers.level.Goals as goal

pub returns : goal.returns
unfolding level_of
returns c =
    let a = c.args in
    c.level_by.ensures ∙ ap (λ (t : ℕ). level_by a.self.now.shape a.self.now.depth a.self.now.words.now t) c.first_met-t.ensures
