-- Of the goal only what the layers have is looked for, and that changes nothing.
use mathlib.Core.Path.{◌≡◌, sym, ap, subst, ◌∙◌}
use Prim.Native.Nat.{ℕ, ◌^◌, ◌<◌}
use lib.Bits.{and_le_r}
use native.Mathlib.Nat.{lt_of_le_of_lt}
use Rattle.rules.specs.Level.{first_met}
use Rattle.rules.specs.Word.{common, first}
use Rattle.rules.proofs.Words.{first_lt}
use Rattle.level.proofs.Goals.{first_held}
use Rattle.level.proofs.layers.Layers.first_met.Goals as goal
use Rattle.level.proofs.layers.Layers.first_met.Goals.{After-common-held}

held : (c : After-common-held) → c.common-held.result.0 ≡ common c.args.goal.0 (first c.args.self.now.shape.props)
held c = c.common-held.ensures ∙ ap (common c.args.goal.0) c.first.ensures

pub first_met_of-requires : goal.first_met_of-requires
first_met_of-requires c =
    let a = c.args in
    subst (λ (x : ℕ). x < 2 ^ a.self.now.shape.props) (sym (held (goal.at.first_met_of-requires c).After-common-held)) (lt_of_le_of_lt (and_le_r a.goal.0 (first a.self.now.shape.props)) (first_lt a.self.now.shape.props))

pub returns : goal.returns
returns c =
    let a = c.args in
    c.first_met_of.ensures
    ∙ ap (λ (x : ℕ). first_met a.self.now.shape a.self.now.depth a.set.0 x a.self.now.words.now) (held (goal.at.returns c).After-common-held)
    ∙ first_held a.self.now.shape a.self.now.depth a.set.0 a.goal.0 a.self.now.words.now
