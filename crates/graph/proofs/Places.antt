-- Where the parts of a file lie, version by version: all sets of the actions and their effects before the start states.
-- Assumes nothing.
use mathlib.Core.Path.{◌≡◌}
use mathlib.Core.Bool.{So}
use mathlib.Core.Logic.{⊎_elim}
use mathlib.Core.List.{List}
use Prim.Native.Nat.{ℕ, ◌+◌, ◌*◌, ◌≤◌, ◌<◌}
use native.Mathlib.Omega.{arith}
use lib.ListN.{get_or}
use Rattle.rules.specs.Test.{fails, same}
use Rattle.rules.specs.Domain.{Plain}
use Rattle.rules.proofs.Tests.{choose_held, choose_failed, is_fails, holds_or, same_not}
use Rattle.graph.specs.Format.{set_bytes, long_head, plain_version, plain, action_at, effect_at, when_at, pre_at, sets_at, states_at, actions_of}
use Rattle.graph.specs.File.{Ranged}
use Rattle.graph.specs.declared.format.Counts.{Counts}

-- ---- version 1

module _ (c : Counts) (v : So (plain c)) where
  pub pre_plain : (a : ℕ) → pre_at c a ≡ action_at a
  unfolding pre_at
  pre_plain a = choose_held _ v

  pub sets_plain : (e : ℕ) → sets_at c e ≡ action_at e
  unfolding sets_at
  sets_plain e = choose_held _ v

  pub states_plain : states_at c ≡ action_at c.actions
  unfolding states_at
  states_plain = choose_held _ v

  -- each action has the effect of its number, with no antecedent
  pub actions_plain : (file : List ℕ) → c.effects ≡ c.actions → Plain (actions_of file c)
  unfolding actions_of
  actions_plain file own = record { effects = own; owner = λ e h. choose_held _ v; when = λ e h. choose_held _ v }

-- ---- version 2

pub not_plain : {version : ℕ} → (version ≡ plain_version → ⊥) → So (fails (same version plain_version))
not_plain h = is_fails (same_not h)

module _ (c : Counts) (v : So (fails (plain c))) where
  pub pre_long : (a : ℕ) → pre_at c a ≡ long_head + set_bytes * a
  unfolding pre_at
  pre_long a = choose_failed _ _ v

  pub sets_long : (e : ℕ) → sets_at c e ≡ when_at c e
  unfolding sets_at
  sets_long e = choose_failed _ _ v

  pub owner_long : (file : List ℕ) (e : ℕ) → (actions_of file c).owner e ≡ get_or file (effect_at c e) 0
  unfolding actions_of
  owner_long file e = choose_failed _ _ v

  pub states_long : states_at c ≡ effect_at c c.effects
  unfolding states_at
  states_long = choose_failed _ _ v

-- ---- either

module _ (c : Counts) (r : Ranged c) where
  pub pre_before : {a : ℕ} → a < c.actions → pre_at c a + set_bytes ≤ states_at c
  pre_before {a} h = ⊎_elim (λ v. omega (arith, pre_plain c v a, states_plain c v)) (λ v. omega (arith, pre_long c v a, states_long c v)) (holds_or (plain c))

  pub sets_before : {e : ℕ} → e < c.effects → sets_at c e + 3 * set_bytes ≤ states_at c
  sets_before {e} h =
      ⊎_elim (λ v. omega (arith, sets_plain c v e, states_plain c v, r.own v)) (λ v. omega (arith, sets_long c v e, states_long c v)) (holds_or (plain c))

  pub states_few : states_at c ≤ 1000
  states_few =
      ⊎_elim (λ v. omega (arith, states_plain c v, r.actions)) (λ v. omega (arith, states_long c v, r.actions, r.effects)) (holds_or (plain c))

  -- all of it lies behind the head of version 1
  pub pre_behind : (a : ℕ) → 8 ≤ pre_at c a
  pre_behind a = ⊎_elim (λ v. omega (arith, pre_plain c v a)) (λ v. omega (arith, pre_long c v a)) (holds_or (plain c))

  pub sets_behind : (e : ℕ) → 8 ≤ sets_at c e
  sets_behind e = ⊎_elim (λ v. omega (arith, sets_plain c v e)) (λ v. omega (arith, sets_long c v e)) (holds_or (plain c))

  pub states_behind : 8 ≤ states_at c
  states_behind = ⊎_elim (λ v. omega (arith, states_plain c v)) (λ v. omega (arith, states_long c v)) (holds_or (plain c))
