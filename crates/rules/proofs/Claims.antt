-- The claims of document 01 about built words: memory that begins with the words of the build, then anything.
-- Assumes nothing.
use mathlib.Core.Path.{◌≡◌, refl, sym, ap, ap₂, subst, ◌∙◌}
use mathlib.Core.Bool.{So}
use mathlib.Core.Logic.{◌⊎◌, inl, inr, ⊎_elim}
use mathlib.Core.List.{List}
use Prim.Native.Nat.{ℕ, suc, ◌^◌, ◌≤◌, ◌<◌}
use native.Mathlib.Nat.{lt_of_not-le}
use native.Mathlib.Omega.{arith}
use lib.ListN.{length, get_or}
use Rattle.rules.specs.Test.{◌implies◌, same, below, choose}
use Rattle.rules.specs.Word.{bit, within}
use Rattle.rules.specs.Over.{keep, all_below, first_below, greatest}
use Rattle.rules.specs.Domain.{Domain, shape_of, Actions, Sound, domain}
use Rattle.rules.specs.Layer.{size, props_in}
use Rattle.rules.specs.Own.{admits, own_start, own_from, own_props, own_level}
use Rattle.rules.specs.Shared.{prop_layer}
use Rattle.rules.specs.Level.{goal_met, first_met, layer_rests, first_rest, Rest, rests_at, none, rest_of, Level, level, never, not_by_depth, level_by, level_of}
use Rattle.rules.specs.Run.{ended, run_of}
use Rattle.rules.specs.Plan.{planned, stuck, no_level, plan_at, plan_of}
use Rattle.rules.proofs.Tests.{choose_held, choose_failed, implies_of, implies_at, holds_or, below_at, below_fails}
use Rattle.rules.proofs.Overs.{all_of_lem, all_at, keep_held, keep_le}
use Rattle.rules.proofs.Firsts.{first_before, first_at, first_eq, greatest_le, greatest_at}
use Rattle.rules.proofs.Layers.{which}
use Rattle.rules.proofs.Order.{admits_has, Keeps}
use Rattle.rules.proofs.Bounds.{goal_admitted, set_bound}
use Rattle.rules.proofs.Levels.{own_levels, answer_says, level_of_lem}
use Rattle.rules.proofs.Agree.{props_agree}
use Rattle.rules.proofs.Layouts.{Built, props_in_lem, props_in_agree, actions_in_agree}
use Rattle.rules.proofs.Rests.{first_rests, before_rest}
use Rattle.rules.proofs.Mets.{met_layer_lem, met_agrees}
use Rattle.rules.proofs.Plans.{RelaxedPlan, plan_of_at, plan_made}

-- in layer t of its own graph, each state of S has every goal and no two of them mutex
abbrev pub AllAdmit : Domain → ℕ → (ℕ → ℕ) → ℕ → ℕ → ℕ → Type 0
AllAdmit D n start set goal t = (s : ℕ) → s < n → So (bit s set) → So (admits D.props (own_props D (start s) t) goal)

-- the greatest of the levels that the states of S have by themselves
abbrev pub greatest_level : Domain → ℕ → (ℕ → ℕ) → ℕ → ℕ → ℕ → ℕ
greatest_level D n start k set goal = greatest n (λ s. keep (bit s set) (own_level D k goal (start s)))

module _ (D : Domain) (n : ℕ) (start : ℕ → ℕ) (k : ℕ) (words : List ℕ) (built : Built D n start k words) {set : ℕ} (goal : ℕ) (small : set < 2 ^ n) where
  -- ---- the level

  first_met_lem : first_met (shape_of D) k set goal words
      ≡ first_below (suc k) (λ t. all_below n (λ s. bit s set implies admits D.props (own_props D (start s) t) goal))
  unfolding first_met
  first_met_lem = first_eq (suc k) (λ t h. met_agrees D n start words built goal small (omega arith))

  -- the level of a set is the greatest of the levels that its states have by themselves
  pub set_level : Keeps D → first_met (shape_of D) k set goal words ≡ greatest_level D n start k set goal
  set_level K = first_met_lem ∙ own_levels K k goal n set start

  -- a set has a level exactly when each of its states has one by itself, and it is the greatest of these
  pub level_exists : Keeps D → ((s : ℕ) → s < n → So (bit s set) → own_level D k goal (start s) ≤ k)
      → level_of (shape_of D) k set goal words ≡ level (greatest_level D n start k set goal)
  level_exists K each =
      level_of_lem D k set goal words (subst (λ (t : ℕ). t ≤ k) (sym (set_level K)) (greatest_le n (λ s h. keep_le (each s h))))
      ∙ ap level (set_level K)

  pub level_only : Keeps D → {t : ℕ} → level_of (shape_of D) k set goal words ≡ level t
      → (t ≤ k) × (t ≡ greatest_level D n start k set goal) × ((s : ℕ) → s < n → So (bit s set) → own_level D k goal (start s) ≤ t)
  level_only K e =
      let (l, q) = answer_says D k set goal words e in (
        l,
        q ∙ set_level K,
        λ s h b. omega (
          arith,
          q,
          set_level K,
          keep_held (own_level D k goal (start s)) b,
          greatest_at n (λ s. keep (bit s set) (own_level D k goal (start s))) h,
        ),
      )

  -- at the level each state of S has the goal
  pub level_admits : {t : ℕ} → level_of (shape_of D) k set goal words ≡ level t → (t ≤ k) × AllAdmit D n start set goal t
  unfolding first_met
  level_admits {t} e =
      let (l, q) = answer_says D k set goal words e in
      let met : So (goal_met D.props (props_in (shape_of D) words t) set goal) =
      rw q (first_at (suc k) (λ t. goal_met D.props (props_in (shape_of D) words t) set goal) (omega arith)) in
      (l, λ s h. implies_at (all_at _ (sym (met_agrees D n start words built goal small l) ∙ met) h))

  -- ---- no level

  layer_met : (u : ℕ) → AllAdmit D n start set goal u → So (goal_met D.props (prop_layer D n start u) set goal)
  layer_met u all =
      met_layer_lem (λ s h. props_agree D start h u) goal small
      ∙ all_of_lem (λ s h. implies_of (all s h))

  -- where no layer up to the depth meets the goal
  unmet : k < first_met (shape_of D) k set goal words → {u : ℕ} → u ≤ k → So (goal_met D.props (prop_layer D n start u) set goal) → ⊥
  unfolding first_met
  unmet l {u} h t =
      first_before (suc k) (λ t. goal_met D.props (props_in (shape_of D) words t) set goal) u (omega arith) (rw (props_in_lem D n start k words built h) t)

  -- 'never': at no depth do all states of S have the goal
  pub never_is_never : level_of (shape_of D) k set goal words ≡ never → (u : ℕ) → AllAdmit D n start set goal u → ⊥
  never_is_never e u all =
      let (l, r) = answer_says D k set goal words e in
      ⊎_elim (λ h. unmet l h (layer_met u all))
      (λ h. unmet l (omega arith)
      (subst (λ (x : List ℕ). So (goal_met D.props x set goal)) (first_rests D n start words built r (omega arith)) (layer_met u all)))
      (which u k)

  -- 'not by depth': not up to the depth
  pub not_by_depth_lem : level_of (shape_of D) k set goal words ≡ not_by_depth → {u : ℕ} → u ≤ k → AllAdmit D n start set goal u → ⊥
  not_by_depth_lem e {u} h all = unmet (answer_says D k set goal words e).0 h (layer_met u all)

-- what the layers say of a goal does not depend on what lies behind the words of the build
module _ (D : Domain) (n : ℕ) (start : ℕ → ℕ) (k : ℕ) (words words' : List ℕ) (built : Built D n start k words) (built' : Built D n start k words') where
  layer_same : {t : ℕ} → t ≤ k → props_in (shape_of D) words t ≡ props_in (shape_of D) words' t
  layer_same h = props_in_lem D n start k words built h ∙ sym (props_in_lem D n start k words' built' h)

  pub level_same : (set goal : ℕ) → level_of (shape_of D) k set goal words ≡ level_of (shape_of D) k set goal words'
  unfolding level_by level_of first_met first_rest layer_rests
  level_same set goal =
      ap₂ (λ (t r : ℕ). choose (below t (suc k)) (level t) (choose (below r k) never not_by_depth))
      (first_eq (suc k) (λ t h. ap (λ (l : List ℕ). goal_met D.props l set goal) (layer_same (omega arith))))
      (first_eq k (λ t h. ap₂ (λ (l l' : List ℕ). all_below (size D.props) (λ i. same (get_or l i 0) (get_or l' i 0)))
      (layer_same (omega arith)) (layer_same (omega arith))))

-- ---- the rest

-- what an answer says of the layers: before t no two neighbours are equal, and from t on all layers are; or no two neighbours are, up to the depth
abbrev pub RestSays : Domain → ℕ → (ℕ → ℕ) → ℕ → Rest → Type 0
RestSays D n start k (rests_at t) =
    (t < k) × ((u : ℕ) → u < t → prop_layer D n start u ≡ prop_layer D n start (suc u) → ⊥) × ((u : ℕ) → t ≤ u → prop_layer D n start u ≡ prop_layer D n start t)
RestSays D n start k none = (u : ℕ) → u < k → prop_layer D n start u ≡ prop_layer D n start (suc u) → ⊥

module _ (D : Domain) (n : ℕ) (start : ℕ → ℕ) (k : ℕ) (words : List ℕ) (built : Built D n start k words) where
  says : RestSays D n start k (rest_of (shape_of D) k words)
  unfolding rest_of
  says = ⊎_elim
      (λ h.
      let l = below_at h in
      subst (RestSays D n start k) (sym (choose_held _ h))
      (l, (λ u g. before_rest D n start words built (omega arith) g), (λ u. first_rests D n start words built l)))
      (λ f. subst (RestSays D n start k) (sym (choose_failed _ _ f)) (λ u g. before_rest D n start words built g (omega (arith, below_fails f))))
      (holds_or (below (first_rest (shape_of D) k words) k))

  -- 'The graph rests at the first t below k'
  pub rest_says_lem : {r : Rest} → rest_of (shape_of D) k words ≡ r → RestSays D n start k r
  rest_says_lem e = subst (RestSays D n start k) e says

-- ---- lists of actions

module _ (A : Actions) {n : ℕ} (start : ℕ → ℕ) (k : ℕ) (words : List ℕ) (built : Built (domain A) n start k words) {set : ℕ} (goal : ℕ) (small : set < 2 ^ n)
    (list : List ℕ) {ends : List ℕ} (ran : run_of A n start set list ≡ ended ends)
    (reach : (s : ℕ) → s < n → So (bit s set) → So (within goal (get_or ends s 0))) where
  all_admit : AllAdmit (domain A) n start set goal (length list)
  unfolding domain
  all_admit s h t = goal_admitted A start set list ran h t goal (reach s h t)

  -- no list of actions that ends with the goal is shorter than the level
  pub level_bound : {t : ℕ} → level_of (shape_of (domain A)) k set goal words ≡ level t → t ≤ length list
  unfolding domain
  level_bound e =
      let (l, q) = answer_says (domain A) k set goal words e in
      subst (λ (x : ℕ). x ≤ length list) (sym (q ∙ first_met_lem (domain A) n start k words built goal small))
      (set_bound A start set list ran goal reach k)

  -- there is none where the answer is 'never'
  pub never_bound : level_of (shape_of (domain A)) k set goal words ≡ never → ⊥
  never_bound e = never_is_never (domain A) n start k words built goal small e (length list) all_admit

  -- and one is longer than the depth where it is 'not by depth'
  pub depth_bound : level_of (shape_of (domain A)) k set goal words ≡ not_by_depth → k < length list
  depth_bound e = lt_of_not-le (λ h. not_by_depth_lem (domain A) n start k words built goal small e h all_admit)

-- ---- the relaxed plan

-- there is a level, and a plan of as many words is answered
abbrev WithPlan : Actions → ℕ → ℕ → ℕ → List ℕ → Type 0
WithPlan A k set goal words =
    (plan : List ℕ) × (level_of (shape_of (domain A)) k set goal words ≡ level (length plan)) × (plan_of A k set goal words ≡ planned plan)

-- there is no level, and that is answered
abbrev WithoutPlan : Actions → ℕ → ℕ → ℕ → List ℕ → Type 0
WithoutPlan A k set goal words = ((t : ℕ) → level_of (shape_of (domain A)) k set goal words ≡ level t → ⊥) × (plan_of A k set goal words ≡ no_level)

module _ (A : Actions) (n : ℕ) (start : ℕ → ℕ) (k : ℕ) (words : List ℕ) (built : Built (domain A) n start k words) {set goal : ℕ} (small : set < 2 ^ n)
    (sound : Sound A) (goal_lt : goal < 2 ^ A.props) where
  -- where there is a level, a plan of as many words is answered, and it leads each state of S to the goal, deletes left out
  pub plan_of_lem : {t : ℕ} → level_of (shape_of (domain A)) k set goal words ≡ level t
      → (plan : List ℕ) × (plan_of A k set goal words ≡ planned plan) × RelaxedPlan A start n t set goal plan
  unfolding domain own_props own_from own_start admits
  plan_of_lem {t} e =
      let (l, all) = level_admits (domain A) n start k words built goal small e in
      let (plan, d, r) = plan_made A start words t sound
      (λ s p h i. (props_in_agree (domain A) n start k words built h (omega arith)).label p i)
      (λ u s v h i j. (actions_in_agree (domain A) n start k words built i (omega arith)).label v j) small goal_lt
      (λ s h b p i g. admits_has _ goal (all s h b) i g) in
      (plan, plan_of_at A k set goal words e ∙ d, r)

  by_level : WithPlan A k set goal words ⊎ WithoutPlan A k set goal words
  unfolding plan_of plan_at
  by_level = go (level_of (shape_of (domain A)) k set goal words) refl
    where
      go : (a : Level) → level_of (shape_of (domain A)) k set goal words ≡ a → WithPlan A k set goal words ⊎ WithoutPlan A k set goal words
      go (level t) e = let (plan, d, r) = plan_of_lem e in inl (plan, e ∙ ap level (sym r.sized), d)
      go never e = inr ((λ t d. let z : ◌≡◌ {A = ℕ} 0 1 = cc in omega arith), ap (plan_at A set goal words) e)
      go not_by_depth e = inr ((λ t d. let z : ◌≡◌ {A = ℕ} 0 1 = cc in omega arith), ap (plan_at A set goal words) e)

  -- so no state is ever left uncovered, nor a need outside its label
  pub never_stuck : {t : ℕ} → plan_of A k set goal words ≡ stuck t → ⊥
  never_stuck e =
      ⊎_elim (λ (plan, l, p). let z : ◌≡◌ {A = ℕ} 0 1 = cc in omega arith) (λ (f, p). let z : ◌≡◌ {A = ℕ} 0 1 = cc in omega arith) by_level

  -- 'the level, which is the number of words written'
  pub plan_level : {plan : List ℕ} → plan_of A k set goal words ≡ planned plan → level_of (shape_of (domain A)) k set goal words ≡ level (length plan)
  plan_level {plan} e =
      ⊎_elim (λ (plan', l, p). let d : plan' ≡ plan = cc in l ∙ ap (λ (x : List ℕ). level (length x)) d)
      (λ (f, p). let z : ◌≡◌ {A = ℕ} 0 1 = cc in absurd (omega arith)) by_level

  -- 'a plan is wanted and there is no level': exactly where there is none
  pub no_level_of : ((t : ℕ) → level_of (shape_of (domain A)) k set goal words ≡ level t → ⊥) → plan_of A k set goal words ≡ no_level
  no_level_of f = ⊎_elim (λ (plan, l, p). absurd (f (length plan) l)) (λ (g, p). p) by_level

  pub no_level_at : plan_of A k set goal words ≡ no_level → {t : ℕ} → level_of (shape_of (domain A)) k set goal words ≡ level t → ⊥
  no_level_at e {t} = ⊎_elim (λ (plan, l, p). let z : ◌≡◌ {A = ℕ} 0 1 = cc in absurd (omega arith)) (λ (f, p). f) by_level t
