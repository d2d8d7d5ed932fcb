-- Two files with the same actions: what is said of the states in which they agree is the same.
-- Assumes nothing.
use mathlib.Core.Path.{◌≡◌, sym, ap, ap₂, subst, ◌∙◌}
use mathlib.Core.List.{List, []}
use Prim.Native.Nat.{ℕ, ◌+◌, ◌^◌, ◌≤◌, ◌<◌}
use native.Mathlib.Omega.{arith}
use lib.ListN.{get_or}
use Rattle.rules.specs.Word.{bit}
use Rattle.rules.specs.Over.{keep}
use Rattle.rules.specs.Lists.{list_over}
use Rattle.rules.specs.Domain.{Domain, SameActions, shape_of, domain}
use Rattle.rules.specs.Layer.{label_in, props_in, actions_in}
use Rattle.rules.specs.Own.{own_actions, own_props, own_level}
use Rattle.rules.specs.Shared.{graph_words}
use Rattle.rules.specs.Level.{Level, level, never, not_by_depth}
use Rattle.rules.specs.Plan.{descend, plan_of}
use Rattle.rules.proofs.Layouts.{props_in_agree, actions_in_agree}
use Rattle.rules.proofs.Plans.{goals, plan_of_at}
use Rattle.rules.proofs.Leaks.{no_leak}
use Rattle.rules.proofs.SamePlans.{AgreeIn, goals_inside, descend_same}
use Rattle.rules.proofs.SameDomains.{domain_same, plan_reads}
use Rattle.graph.specs.Verdict.{accepted}
use Rattle.graph.specs.Format.{actions_of, start_of, domain_of}
use Rattle.graph.specs.declared.format.Counts.{Counts}
use Rattle.level.specs.Rule.{level_rule}
use Rattle.plan.specs.Plan.{planned_verdict, plan_rule}
use Rattle.theorems.specs.Setting.{Exactly, Found, StatesOf, GoalOf, Each, alone, Largest}
use Rattle.theorems.proofs.Founds.{file_taken, are, built, level_answer, level_says_lem, is_state}
use Rattle.theorems.proofs.Levels.{largest, answered}
use Rattle.theorems.proofs.Plans.{plan_answer, none_exactly}

-- states that have the same levels by themselves have the same largest
largest_moves : (file : List ℕ) (c : Counts) (file' : List ℕ) (c' : Counts) (depth set goal t : ℕ)
    → Each set (λ s. alone file c depth goal s ≡ alone file' c' depth goal s) → Largest file c depth set goal t → Largest file' c' depth set goal t
largest_moves file c file' c' depth set goal t e g = record {
  none_larger = λ s b. subst (λ (x : ℕ). x ≤ t) (e s b) (g.none_larger s b);
  state = g.state;
  member = g.member;
  reached = sym (e g.state g.member) ∙ g.reached;
}

module _ (file : List ℕ) (c : Counts) (file' : List ℕ) (c' : Counts) (same : SameActions (actions_of file c) (actions_of file' c')) where
  props_are : c.props ≡ c'.props
  unfolding actions_of
  props_are = same.props

  module _ {depth : ℕ} {found found' : List ℕ} (f : Found file c depth found) (f' : Found file' c' depth found') where
    domain_is : domain_of file c ≡ domain_of file' c'
    domain_is = domain_same same (file_taken f').sound

    alone_same : (goal s : ℕ) → start_of file c s ≡ start_of file' c' s → alone file c depth goal s ≡ alone file' c' depth goal s
    alone_same goal s e = ap₂ (λ (D : Domain) (x : ℕ). own_level D depth goal x) domain_is e

    pub words_same : (s : ℕ) → s < c.states → s < c'.states → start_of file c s ≡ start_of file' c' s → (i : ℕ)
        → bit s (get_or f.words i 0) ≡ bit s (get_or f'.words i 0)
    words_same s h h' e i =
        ap (λ (x : List ℕ). bit s (get_or x i 0))
        (are f ∙ ap (λ (D : Domain). graph_words D c.states (start_of file c) depth) domain_is)
        ∙ no_leak (domain_of file' c') depth (start_of file c) (start_of file' c') h h' e i
        ∙ ap (λ (x : List ℕ). bit s (get_or x i 0)) (sym (are f'))

    module _ {set goal : ℕ} (some : StatesOf c set) (some' : StatesOf c' set) (over : GoalOf c goal)
        (agree : Each set (λ s. start_of file c s ≡ start_of file' c' s)) where
      pub over' : GoalOf c' goal
      over' = subst (λ (x : ℕ). goal < 2 ^ x) props_are over

      pub level_same : (t : ℕ) → Exactly (level_rule file depth set goal found ≡ accepted (level t)) (level_rule file' depth set goal found' ≡ accepted (level t))
      level_same t = (
        (λ e.
            let (l, g) = largest f some over t e in
            answered f' some' over' t l (largest_moves file c file' c' depth set goal t (λ s b. alone_same goal s (agree s b)) g)),
        (λ e.
            let (l, g) = largest f' some' over' t e in
            answered f some over t l (largest_moves file' c' file c depth set goal t (λ s b. sym (alone_same goal s (agree s b))) g)),
      )

      -- ---- the plan

      -- a layer of each memory, of the same place, agrees with the own layer of the state
      props_agree : (p : ℕ) → p < (actions_of file c).props
          → AgreeIn set (label_in (props_in (shape_of (domain_of file c)) found 0) p) (label_in (props_in (shape_of (domain_of file' c')) found' 0) p)
      unfolding domain
      props_agree p h s b =
          (props_in_agree (domain_of file c) c.states (start_of file c) depth found (built f) (is_state some s b) (omega arith)).label p h
          ∙ ap₂ (λ (D : Domain) (x : ℕ). (own_props D x 0).has p) domain_is (agree s b)
          ∙ sym ((props_in_agree (domain_of file' c') c'.states (start_of file' c') depth found' (built f') (is_state some' s b) (omega arith)).label p
          (subst (λ (x : ℕ). p < x) same.props h))

      actions_agree : (t : ℕ) → t < depth → (v : ℕ) → v < (actions_of file c).effects + (actions_of file c).props
          → AgreeIn set (label_in (actions_in (shape_of (domain_of file c)) found t) v) (label_in (actions_in (shape_of (domain_of file' c')) found' t) v)
      unfolding domain
      actions_agree t l v h s b =
          (actions_in_agree (domain_of file c) c.states (start_of file c) depth found (built f) (is_state some s b) l).label v h
          ∙ ap₂ (λ (D : Domain) (x : ℕ). (own_actions D (own_props D x t)).has v) domain_is (agree s b)
          ∙ sym ((actions_in_agree (domain_of file' c') c'.states (start_of file' c') depth found' (built f') (is_state some' s b) l).label v
          (subst (λ (x : ℕ). v < x) (ap₂ (λ (x y : ℕ). x + y) same.effects same.props) h))

      plan_at_lem : (t : ℕ) → level_rule file depth set goal found ≡ accepted (level t)
          → plan_of (actions_of file c) depth set goal found ≡ plan_of (actions_of file' c') depth set goal found'
      plan_at_lem t e =
          plan_of_at (actions_of file c) depth set goal found (level_says_lem f set goal some over _ e)
          ∙ descend_same (plan_reads same (file_taken f').sound) set found found' props_agree actions_agree t
          (largest f some over t e).0
          (goals (actions_of file c) set goal) [] (goals_inside (actions_of file c) set goal)
          ∙ ap (λ (n : ℕ). descend (actions_of file' c') found' t (list_over n (λ p. keep (bit p goal) set)) []) same.props
          ∙ sym (plan_of_at (actions_of file' c') depth set goal found' (level_says_lem f' set goal some' over' _ ((level_same t).0 e)))

      module _ (room : ℕ) (enough : depth ≤ room) where
        no_plans : ((t : ℕ) → level_rule file depth set goal found ≡ accepted (level t) → ⊥)
            → plan_rule file depth set goal found room ≡ plan_rule file' depth set goal found' room
        no_plans h =
            (none_exactly f some over room enough).0 h ∙ sym ((none_exactly f' some' over' room enough).0 (λ t e. h t ((level_same t).1 e)))

        pub plan_same : plan_rule file depth set goal found room ≡ plan_rule file' depth set goal found' room
        plan_same = go _ (level_answer f set goal some over)
          where
            go : (a : Level) → level_rule file depth set goal found ≡ accepted a
                → plan_rule file depth set goal found room ≡ plan_rule file' depth set goal found' room
            go (level t) e =
                plan_answer f some over room enough ∙ ap (planned_verdict depth) (plan_at_lem t e) ∙ sym (plan_answer f' some' over' room enough)
            go never e = no_plans (λ t q. let z : ◌≡◌ {A = ℕ} 0 1 = cc in omega arith)
            go not_by_depth e = no_plans (λ t q. let z : ◌≡◌ {A = ℕ} 0 1 = cc in omega arith)
