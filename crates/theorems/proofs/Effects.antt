-- What a file's effects are: each has an action, and in version 1 each action has one, so that such a file means what its three sets say.
-- Assumes nothing.
use mathlib.Core.Path.{◌≡◌}
use mathlib.Core.List.{List}
use Prim.Native.Nat.{ℕ, ◌<◌}
use Rattle.rules.specs.Test.{◌or◌}
use Rattle.rules.specs.Word.{union, without}
use Rattle.rules.specs.Domain.{Plain, condition, clobbers, interfere_of}
use Rattle.rules.specs.Run.{after}
use Rattle.rules.proofs.Tests.{same_of}
use Rattle.rules.proofs.Plains as plains
use Rattle.graph.specs.Verdict.{accepted}
use Rattle.graph.specs.Format.{actions_of}
use Rattle.graph.specs.File.{file_rule}
use Rattle.graph.specs.declared.format.Counts.{Counts}
use Rattle.graph.proofs.Places.{actions_plain}
use Rattle.graph.proofs.Ladder.{taken_means}

module _ (file : List ℕ) (c : Counts) (taken : file_rule file ≡ accepted c) where
  pub owned : (e : ℕ) → e < c.effects → (actions_of file c).owner e < c.actions
  unfolding actions_of
  owned = (taken_means file c taken).sound.owner

  module _ (one : c.version ≡ 1) where
    plain : Plain (actions_of file c)
    plain = actions_plain c (same_of one) file ((taken_means file c taken).ranged.own (same_of one))

    pub needs : (e : ℕ) → e < c.effects → condition (actions_of file c) e ≡ (actions_of file c).pre e
    unfolding actions_of
    needs e h = plains.plain_condition plain h

    pub steps : (a x : ℕ) → a < c.actions → after (actions_of file c) a x ≡ union (without x ((actions_of file c).del a)) ((actions_of file c).add a)
    unfolding actions_of
    steps a x h = plains.plain_after plain x h

    pub interfere : (v w : ℕ) → (v ≡ w → ⊥)
        → interfere_of (actions_of file c) v w ≡ (clobbers (actions_of file c) v w or clobbers (actions_of file c) w v)
    interfere v w d = plains.plain_interfere plain d
