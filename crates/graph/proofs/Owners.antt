-- Effects and the actions that own them: when the rule turns a file away for an effect without one, and that files with the same actions have the same verdict.
-- Assumes nothing.
use mathlib.Core.Path.{◌≡◌, sym, ap, ap₂, ◌∙◌}
use mathlib.Core.Bool.{Bool, So, false}
use mathlib.Core.Logic.{⊎_elim}
use mathlib.Core.List.{List}
use Prim.Native.Nat.{ℕ, ◌+◌, ◌*◌, ◌≤◌, ◌<◌}
use native.Mathlib.Omega.{arith}
use lib.ListN.{get_or}
use Rattle.rules.specs.Test.{fails, below, choose}
use Rattle.rules.specs.Over.{first_below}
use Rattle.rules.specs.Domain.{SameActions}
use Rattle.rules.proofs.Tests.{choose_held, fails_of, fails_at, holds_or, below_of, below_at, below_not, below_fails}
use Rattle.rules.proofs.Firsts.{first_before, first_eq, first_unique}
use Rattle.graph.specs.Verdict.{accepted, refused}
use Rattle.graph.specs.Format.{long_head, set_bytes, effect_bytes, plain, effect_at, actions_of}
use Rattle.graph.specs.File.{Ranged, first_stray, owners_rule}
use Rattle.graph.specs.declared.format.Counts.{Counts}
use Rattle.graph.proofs.Verdicts.{passed_if_not}

-- the first e effects have an action
abbrev pub Owned : List ℕ → Counts → ℕ → Type 0
Owned file c n = (e : ℕ) → e < n → (actions_of file c).owner e < c.actions

module _ (file : List ℕ) (c : Counts) where
  pub stray_at : {e : ℕ} → Owned file c e → e < c.effects → c.actions ≤ (actions_of file c).owner e → refused 16 (effect_at c e) ≡ owners_rule file c
  unfolding owners_rule first_stray actions_of choose
  stray_at {e} before h s =
      let first : e ≡ first_stray (actions_of file c) =
      first_unique (omega arith) (λ i l t. fails_at t (below_of (before i l))) (λ _. fails_of (λ t. omega (arith, below_at t))) in
      simp (sym first, below_of h)

  pub all_owned : Owned file c c.effects → accepted tt ≡ owners_rule file c
  unfolding owners_rule first_stray actions_of choose
  all_owned each =
      let n : ℕ = c.effects in
      let first : n ≡ first_stray (actions_of file c) =
      first_unique (omega arith) (λ i l t. fails_at t (below_of (each i l))) (λ l. absurd (omega arith)) in
      let none : below n n ≡ false = below_not (omega arith) in
      simp (sym first, none)

  -- in version 1 each effect is the action's of its number
  pub plain_owned : Ranged c → So (plain c) → Owned file c c.effects
  unfolding actions_of
  plain_owned r v e h = omega (arith, choose_held {b = plain c} {x = e} (get_or file (effect_at c e) 0) v, r.own v)

pub owners_mean : (file : List ℕ) (c : Counts) → owners_rule file c ≡ accepted tt → (e : ℕ) → e < c.effects → (actions_of file c).owner e < c.actions
unfolding owners_rule first_stray actions_of
owners_mean file c p e h =
    let A = actions_of file c in
    let stray : ℕ → Bool = λ e. fails (below (A.owner e) A.count) in
    let all : c.effects ≤ first_below c.effects stray = below_fails (passed_if_not _ _ _ _ _ p).0 in
    ⊎_elim (λ t. below_at t) (λ t. absurd (first_before c.effects stray e (omega arith) t)) (holds_or (below (A.owner e) A.count))

module _ (file : List ℕ) (c : Counts) (file' : List ℕ) (c' : Counts) (s : SameActions (actions_of file c) (actions_of file' c')) where
  pub owners_same : owners_rule file c ≡ owners_rule file' c'
  unfolding owners_rule first_stray actions_of
  owners_same =
      let firsts : first_stray (actions_of file c) ≡ first_stray (actions_of file' c') =
      first_eq c.effects (λ e h. ap₂ (λ (x y : ℕ). fails (below x y)) (s.owner e h) s.count)
      ∙ ap (λ (n : ℕ). first_below n (λ e. fails (below ((actions_of file' c').owner e) (actions_of file' c').count))) s.effects in
      λ i. choose (below (firsts i) (s.effects i)) (refused 16 (long_head + set_bytes * s.count i + effect_bytes * firsts i)) (accepted tt)
