-- What a step keeps.
use Rattle.std.specs.Prelude.{◌≡◌}
use Rattle.together.specs.declared.effects.Tables.{Tables}

-- what the step found of the effects by themselves stays: their labels, and what they are together with among the propositions
pub record Kept (before after : Tables) : Type 0 where
  pub live : after.live ≡ before.live
  pub r : after.r ≡ before.r
