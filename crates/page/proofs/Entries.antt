-- The entry of a goal: what is found of it, and what the single call gives.
-- Assumes nothing.
use mathlib.Core.Path.{◌≡◌, refl, sym, ap, ◌∙◌}
use mathlib.Core.Bool.{Bool, true, false}
use mathlib.Core.List.{List}
use Prim.Native.Nat.{ℕ, suc, ◌^◌, ◌≤◌, ◌<◌}
use native.Mathlib.Omega.{arith}
use Rattle.rules.specs.Test.{below, choose}
use Rattle.rules.specs.Level.{first_met, first_rest}
use Rattle.rules.specs.declared.Shape.{Shape}
use Rattle.rules.proofs.Tests.{choose_held, same_of, same_not, below_of}
use Rattle.graph.specs.Verdict.{Verdict, accepted, refused, turned_away}
use Rattle.graph.specs.declared.refusal.Refusal.{Refusal}
use Rattle.graph.specs.Checks.{goal_rule}
use Rattle.graph.specs.Limits.{max_depth}
use Rattle.graph.proofs.Ladder.{goal_means}
use Rattle.level.proofs.Answers.{met_le}
use Rattle.page.specs.Rule.{never_entry, not_by_depth_entry, goal_entry}
use Rattle.page.specs.Memo.{met_layer, unmet_entry, entry_by, entry_in}

-- ---- the layer that is found

module _ (S : Shape) (k set goal : ℕ) (words : List ℕ) where
  -- a goal that has others than these propositions
  pub layer_wide : {number place : ℕ} → goal_rule S.props goal ≡ refused number place → goal_entry ≡ met_layer S k set goal words
  unfolding goal_rule met_layer choose
  layer_wide {number} {place} e = go (below goal (2 ^ S.props)) e
    where
      go : (b : Bool) → ◌≡◌ {A = Verdict (Unit {0})} (choose b (accepted tt) (refused 8 0)) (refused number place) → goal_entry ≡ choose b (first_met S k set goal words) goal_entry
      go true e = cc
      go false e = refl

  pub layer_fit : {t : ℕ} → goal_rule S.props goal ≡ accepted tt → t ≡ first_met S k set goal words → t ≡ met_layer S k set goal words
  unfolding met_layer
  layer_fit e f = f ∙ sym (choose_held goal_entry (below_of (goal_means _ _ e)))

-- ---- the entry by the layer that was found

module _ (k t unmet : ℕ) where
  pub entry_unmet : t ≡ suc k → unmet ≡ entry_by k t unmet
  unfolding entry_by choose
  entry_unmet e = simp (same_of e)

  pub entry_met : (t ≡ suc k → ⊥) → t ≡ entry_by k t unmet
  unfolding entry_by choose
  entry_met e = simp (same_not e)

-- ---- the entry of a goal that no layer meets

module _ (S : Shape) (k : ℕ) (words : List ℕ) where
  pub never_is : below (first_rest S k words) k ≡ true → never_entry ≡ unmet_entry S k words
  unfolding unmet_entry choose
  never_is r = simp r

  pub not_by_depth_is : below (first_rest S k words) k ≡ false → not_by_depth_entry ≡ unmet_entry S k words
  unfolding unmet_entry choose
  not_by_depth_is r = simp r

-- ---- the entry of a goal

module _ (S : Shape) (k set goal : ℕ) (words : List ℕ) where
  pub entry_wide : (why : Refusal) → turned_away why ≡ goal_rule S.props goal → k ≤ max_depth → goal_entry ≡ entry_in S k set goal words
  unfolding entry_in
  entry_wide why e h = entry_met k goal_entry (unmet_entry S k words) (λ z. omega arith)
      ∙ ap (λ (x : ℕ). entry_by k x (unmet_entry S k words)) (layer_wide S k set goal words (sym e))

  module _ (fit : accepted tt ≡ goal_rule S.props goal) {t : ℕ} (found : t ≡ first_met S k set goal words) where
    pub entry_level : t ≤ k → t ≡ entry_in S k set goal words
    unfolding entry_in
    entry_level h = entry_met k t (unmet_entry S k words) (λ z. omega arith)
        ∙ ap (λ (x : ℕ). entry_by k x (unmet_entry S k words)) (layer_fit S k set goal words (sym fit) found)

    pub entry_without : k < t → unmet_entry S k words ≡ entry_in S k set goal words
    unfolding entry_in
    entry_without h = entry_unmet k t (unmet_entry S k words) (omega (arith, found, met_le S k set words goal))
        ∙ ap (λ (x : ℕ). entry_by k x (unmet_entry S k words)) (layer_fit S k set goal words (sym fit) found)
