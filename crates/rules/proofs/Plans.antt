-- The relaxed plan: what a covered layer passes down, what the plan's words reach, and that words which agree with the states' own graphs give a plan.
-- Assumes nothing.
use mathlib.Core.Path.{◌≡◌, refl, sym, ap, subst, ◌∙◌}
use mathlib.Core.Bool.{So}
use mathlib.Core.Logic.{⊎_elim}
use mathlib.Core.List.{List, [], ◌∷◌}
use Prim.Native.Nat.{ℕ, zero, suc, ◌+◌, ◌^◌, ◌≤◌, ◌<◌}
use native.Mathlib.Nat.{eq-or-lt_of_le}
use native.Mathlib.Omega.{arith}
use lib.ListN.{length, get_or}
use lib.Pow.{pow_pos}
use Rattle.rules.specs.Test.{◌and◌, fails, same}
use Rattle.rules.specs.Word.{bit, within}
use Rattle.rules.specs.Over.{keep, join_over, all_below}
use Rattle.rules.specs.Lists.{list_over}
use Rattle.rules.specs.Domain.{Domain, shape_of, Actions, Sound, condition, needs_of, adds_of, domain}
use Rattle.rules.specs.Layer.{label_in, props_in, actions_in}
use Rattle.rules.specs.Own.{layer_with, own_start, own_actions, reached, own_next, own_from, own_props}
use Rattle.rules.specs.Level.{level, level_of}
use Rattle.rules.specs.Plan.{Support, order, support, Covered, covered, uncovered, cover_from, cover, planned, stuck, ground, on_cover, descend, plan_at}
use Rattle.rules.specs.Plan.{plan_of, relaxed_step, relaxed_run}
use Rattle.rules.proofs.Tests.{choose_held, choose_failed, and_of, and_left, and_right, or_left, or_right, holds_or, same_of, same_at}
use Rattle.rules.proofs.Words.{bit_union, no_bit_zero, bit_below, single_has, width, no_bits, within_of, within_at}
use Rattle.rules.proofs.Overs.{all_of_lem, all_at, any_of, any_at, bit_keep, bit_join_over}
use Rattle.rules.proofs.Layers.{get_d_list_over}
use Rattle.rules.proofs.Order.{admits_has}
use Rattle.rules.proofs.Domains.{condition_lt, needs_effect, adds_effect, needs_persistence}
use Rattle.rules.proofs.Supports.{adder, order_has, order_vertices, Supported, Passed, Grown, grown_none, grown_both, supported_kept, support_searched}
use Rattle.rules.proofs.Supports.{support_covers}

-- ---- one layer: the search for each proposition in turn

-- the search for p
abbrev pub search_of : Actions → List ℕ → List ℕ → ℕ → ℕ → List ℕ → Support
search_of A labels wanted p marks needed = support A labels p (order A p) (record { left = label_in wanted p; marks = marks; needed = needed })

-- some proposition is wanted for the state i
abbrev pub Wanted : Actions → List ℕ → ℕ → Type 0
Wanted A wanted i = (p : ℕ) × (p < A.props) × So (bit i (label_in wanted p))

-- each wanted proposition has an adder with the state in its label
abbrev pub HasAdders : Actions → List ℕ → List ℕ → Type 0
HasAdders A labels wanted =
    (i q : ℕ) → q < A.props → So (bit i (label_in wanted q)) → (v : ℕ) × So (bit q (adds_of A v)) × So (bit i (label_in labels v))

-- from p on, n propositions are supported for each state for which they are wanted
pub record Covers (A : Actions) (labels wanted : List ℕ) (n p marks : ℕ) (needed : List ℕ) (marks' : ℕ) (needed' : List ℕ) : Type 0 where
  pub grown : Grown A labels (Wanted A wanted) marks needed marks' needed'
  pub supported : (i q : ℕ) → p ≤ q → q < p + n → So (bit i (label_in wanted q)) → Supported A labels q i marks' needed'

module _ (A : Actions) (labels wanted : List ℕ) where
  module _ (n p marks : ℕ) (needed : List ℕ) where
    pub cover_from_next : (search_of A labels wanted p marks needed).left ≡ 0 → cover_from A labels wanted (suc n) p marks needed
        ≡ cover_from A labels wanted n (suc p) (search_of A labels wanted p marks needed).marks (search_of A labels wanted p marks needed).needed
    unfolding cover_from
    cover_from_next e = choose_held _ (same_of e)

    pub cover_from_ends : So (fails (same (search_of A labels wanted p marks needed).left 0)) → cover_from A labels wanted (suc n) p marks needed ≡ uncovered
    unfolding cover_from
    cover_from_ends f = choose_failed _ _ f

  covers_none : {p marks : ℕ} {needed : List ℕ} {marks' : ℕ} {needed' : List ℕ} → covered marks needed ≡ covered marks' needed'
      → Covers A labels wanted zero p marks needed marks' needed'
  covers_none {marks} {needed} {marks'} {needed'} e =
      let m : marks ≡ marks' = cc in
      let d : needed ≡ needed' = cc in
      record {
        grown = subst (λ (x : ℕ). Grown A labels (Wanted A wanted) marks needed x needed') m
            (subst (Grown A labels (Wanted A wanted) marks needed marks) d grown_none);
        supported = λ i q h k. absurd (omega arith);
      }

  covers_more : {n p marks : ℕ} {needed : List ℕ} {marks' : ℕ} {needed' : List ℕ} → p < A.props → (search_of A labels wanted p marks needed).left ≡ 0
      → Covers A labels wanted n (suc p) (search_of A labels wanted p marks needed).marks (search_of A labels wanted p marks needed).needed marks' needed'
      → Covers A labels wanted (suc n) p marks needed marks' needed'
  covers_more {p} {marks} {needed} l e c =
      let f = support_searched A labels p (order A p) (λ v. order_vertices A l) in
      record {
        grown = grown_both (λ i t. (p, l, t)) (λ i t. t) f.grown c.grown;
        supported = λ i q h k t. ⊎_elim
            (λ d. supported_kept c.grown
            (subst (λ (x : ℕ). Supported A labels x i (search_of A labels wanted p marks needed).marks (search_of A labels wanted p marks needed).needed) d
            (f.gone i (subst (λ (x : ℕ). So (bit i (label_in wanted x))) (sym d) t) (λ u. no_bit_zero i (ap (bit i) (sym e) ∙ u)))))
            (λ g. c.supported i q g (omega arith) t)
            (eq-or-lt_of_le h);
      }

  -- a layer that is covered has each wanted proposition supported
  pub cover_from_covers : (n : ℕ) {p marks : ℕ} {needed : List ℕ} {marks' : ℕ} {needed' : List ℕ} → p + n ≤ A.props
      → cover_from A labels wanted n p marks needed ≡ covered marks' needed' → Covers A labels wanted n p marks needed marks' needed'
  unfolding cover_from
  cover_from_covers zero l e = covers_none e
  cover_from_covers (suc n) {p} {marks} {needed} l e = ⊎_elim
      (λ h. covers_more (omega arith) (same_at h)
      (cover_from_covers n (omega arith) (sym (cover_from_next n p marks needed (same_at h)) ∙ e)))
      (λ f. let z : ◌≡◌ {A = ℕ} 0 1 = cc (cover_from_ends n p marks needed f) in absurd (omega arith))
      (holds_or (same (search_of A labels wanted p marks needed).left 0))

  -- where each wanted proposition has an adder, the layer is covered
  pub cover_from_made : HasAdders A labels wanted → (n p marks : ℕ) (needed : List ℕ) → p + n ≤ A.props
      → (marks' : ℕ) × (needed' : List ℕ) × (cover_from A labels wanted n p marks needed ≡ covered marks' needed')
  unfolding cover_from
  cover_from_made f zero p marks needed l = (marks, needed, refl)
  cover_from_made f (suc n) p marks needed l =
      let r = search_of A labels wanted p marks needed in
      let (marks', needed', e) = cover_from_made f n (suc p) r.marks r.needed (omega arith) in
      (marks', needed', cover_from_next n p marks needed (no_bits width none) ∙ e)
    where
      none : (i : ℕ) → i < (search_of A labels wanted p marks needed).left → So (bit i (search_of A labels wanted p marks needed).left) → ⊥
      none i h t =
          let s : Support = record { left = label_in wanted p; marks = marks; needed = needed } in
          let (v, a, b) = f i p (omega arith) ((support_searched A labels p (order A p) (λ v. order_vertices A (omega arith))).fewer i t) in
          support_covers A labels p (order A p) s i (λ v. order_vertices A (omega arith)) (order_has A p a) a b t

  -- the whole layer, from no marks and no needs
  pub cover_made : HasAdders A labels wanted → (marks : ℕ) × (needed : List ℕ) × (cover A labels wanted ≡ covered marks needed)
  unfolding cover
  cover_made f = cover_from_made f A.props 0 0 (list_over A.props (λ q. 0)) (omega arith)

  module _ (marks : ℕ) (needed : List ℕ) (e : cover A labels wanted ≡ covered marks needed) where
    whole : Covers A labels wanted A.props 0 0 (list_over A.props (λ q. 0)) marks needed
    unfolding cover
    whole = cover_from_covers A.props (omega arith) e

    pub cover_supports : {i p : ℕ} → p < A.props → So (bit i (label_in wanted p)) → Supported A labels p i marks needed
    cover_supports {i} {p} h t = whole.supported i p (omega arith) (omega arith) t

    pub cover_source : {i q : ℕ} → q < A.props → So (bit i (label_in needed q)) → Wanted A wanted i × Passed A labels i q
    unfolding label_in
    cover_source {i} {q} h t = ⊎_elim
        (λ z. absurd (no_bit_zero i (ap (bit i) (sym (get_d_list_over (λ q. 0) h)) ∙ z)))
        (λ u. u) (whole.grown.source i q h t)

    pub cover_lt : Sound A → marks < 2 ^ A.count
    cover_lt sound = whole.grown.bounded sound (pow_pos A.count)

-- ---- the run with deletes left out

module _ (A : Actions) where
  -- what was there stays, and an effect of a marked action joins its adds where what it needs holds
  step_keeps : (w x p : ℕ) → So (bit p x) → So (bit p (relaxed_step A w x))
  unfolding relaxed_step
  step_keeps w x p t = bit_union p x (join_over A.effects _) ∙ or_left _ t

  step_adds : (w x p : ℕ) {e : ℕ} → e < A.effects → So (bit (A.owner e) w) → So (within (condition A e) x) → So (bit p (A.add e))
      → So (bit p (relaxed_step A w x))
  unfolding relaxed_step
  step_adds w x p h m u t =
      bit_union p x (join_over A.effects _)
      ∙ or_right _ (bit_join_over p _ (λ e l. bit_keep p _ (A.add e))
      ∙ any_of _ h (and_of (and_of m u) t))

  -- what is supported is there once the marked actions have run, where what is needed below was there before
  step_reaches : Sound A → {labels : List ℕ} {p i marks : ℕ} {needed : List ℕ} (x : ℕ) → p < A.props
      → Supported A labels p i marks needed → ((q : ℕ) → q < A.props → So (bit i (label_in needed q)) → So (bit q x)) → So (bit p (relaxed_step A marks x))
  step_reaches sound {p} {marks} x l s have = ⊎_elim
      (λ h. step_adds marks x p h (s.marked h)
      (within_of x (condition_lt A sound h)
      (λ q k t. have q k (s.needs q k (ap (bit q) (needs_effect A h) ∙ t))))
      (ap (bit p) (sym (adds_effect A h)) ∙ s.adds))
      (λ e. step_keeps marks x p (have p l (s.needs p l (single_has p (ap (needs_of A) e ∙ needs_persistence A p)))))
      (adder A p s.adds)

-- ---- all layers

-- a descent from layer t that ends with a plan, on any words
pub record Descended (A : Actions) (words : List ℕ) (t : ℕ) (wanted plan plan' : List ℕ) : Type 0 where
  pub sized : length plan' ≡ t + length plan
  pub bounded : Sound A → ((i : ℕ) → get_or plan i 0 < 2 ^ A.count) → (i : ℕ) → get_or plan' i 0 < 2 ^ A.count
  -- from a set that has what the labels of layer 0 say of the state i, the new words reach a set that has all that is wanted for i
  pub reaches : Sound A → (i x : ℕ) → ((p : ℕ) → p < A.props → So (bit i (label_in (props_in (shape_of (domain A)) words 0) p)) → So (bit p x))
      → (y : ℕ) × (relaxed_run A plan' x ≡ relaxed_run A plan y) × ((p : ℕ) → p < A.props → So (bit i (label_in wanted p)) → So (bit p y))

module _ (A : Actions) (words : List ℕ) where
  -- one layer down, or states left uncovered at it
  pub descend_next : (t : ℕ) (wanted plan : List ℕ) {marks : ℕ} {needed : List ℕ}
      → cover A (actions_in (shape_of (domain A)) words t) wanted ≡ covered marks needed
      → descend A words (suc t) wanted plan ≡ descend A words t needed (marks ∷ plan)
  unfolding descend on_cover
  descend_next t wanted plan {marks} {needed} e = ap (λ (c : Covered). on_cover c (λ marks needed. descend A words t needed (marks ∷ plan)) (stuck (suc t))) e

  pub descend_stuck : {t : ℕ} (wanted plan : List ℕ) → cover A (actions_in (shape_of (domain A)) words t) wanted ≡ uncovered
      → descend A words (suc t) wanted plan ≡ stuck (suc t)
  unfolding descend on_cover
  descend_stuck {t} wanted plan e = ap (λ (c : Covered). on_cover c (λ marks needed. descend A words t needed (marks ∷ plan)) (stuck (suc t))) e

  descended_none : {wanted plan plan' : List ℕ} → ground A words wanted plan ≡ planned plan' → Descended A words zero wanted plan plan'
  unfolding ground
  descended_none {wanted} {plan} {plan'} e = ⊎_elim
      (λ h.
      let d : plan ≡ plan' = cc (choose_held {x = planned plan} (stuck 0) h) in
      subst (Descended A words zero wanted plan) d (record {
        sized = omega arith;
        bounded = λ sound f. f;
        reaches = λ sound i x f. (x, refl, λ p l t. f p l (within_at _ _ i (all_at _ h l) t));
      }))
      (λ f. let z : ◌≡◌ {A = ℕ} 0 1 = cc (choose_failed _ (planned plan) {y = stuck 0} f) in absurd (omega arith))
      (holds_or (all_below A.props (λ p. within (label_in wanted p) (label_in (props_in (shape_of (domain A)) words 0) p))))

  -- one layer, then those below it
  descended_more : {t : ℕ} {wanted plan plan' : List ℕ} {marks : ℕ} {needed : List ℕ}
      → cover A (actions_in (shape_of (domain A)) words t) wanted ≡ covered marks needed
      → Descended A words t needed (marks ∷ plan) plan' → Descended A words (suc t) wanted plan plan'
  unfolding relaxed_run
  descended_more {t} {wanted} {plan} {marks} {needed} e d =
      let labels = actions_in (shape_of (domain A)) words t in
      record {
        sized = omega (arith, d.sized);
        bounded = λ sound f. d.bounded sound (at (cover_lt A labels wanted marks needed e sound) f);
        reaches = λ sound i x f.
            let (y, r, g) = d.reaches sound i x f in (
              relaxed_step A marks y,
              r,
              λ p l u. step_reaches A sound y l (cover_supports A labels wanted marks needed e l u) g,
            );
      }
    where
      at : marks < 2 ^ A.count → ((i : ℕ) → get_or plan i 0 < 2 ^ A.count) → (i : ℕ) → get_or (marks ∷ plan) i 0 < 2 ^ A.count
      at l f zero = l
      at l f (suc i) = f i

  pub descend_descends : (t : ℕ) {wanted plan plan' : List ℕ} → descend A words t wanted plan ≡ planned plan' → Descended A words t wanted plan plan'
  unfolding descend
  descend_descends zero e = descended_none e
  descend_descends (suc t) {wanted} {plan} {plan'} e =
      go (λ marks needed h. descend_descends t h) (cover A (actions_in (shape_of (domain A)) words t) wanted) refl
    where
      go : ((marks : ℕ) (needed : List ℕ) → descend A words t needed (marks ∷ plan) ≡ planned plan' → Descended A words t needed (marks ∷ plan) plan')
          → (c : Covered) → cover A (actions_in (shape_of (domain A)) words t) wanted ≡ c → Descended A words (suc t) wanted plan plan'
      go below (covered marks needed) d =
          descended_more d (below marks needed (sym (descend_next t wanted plan d) ∙ e))
      go below uncovered d = let z : ◌≡◌ {A = ℕ} 0 1 = cc (descend_stuck wanted plan d) in absurd (omega arith)

-- ---- words that agree with the states' own graphs

-- what the next own layer has is added by a vertex
has_adder : (D : Domain) (x t p : ℕ) → So ((own_props D x (suc t)).has p)
    → (v : ℕ) × (v < D.vertices) × So (bit p (D.adds v)) × So ((own_actions D (own_props D x t)).has v)
unfolding own_props own_from own_next layer_with reached
has_adder D x t p h = let (v, l, u) = any_at h in (v, l, and_left _ u, and_right _ u)

-- what is wanted at layer t: by states below n, and there in their own graphs
abbrev pub There : Actions → (ℕ → ℕ) → ℕ → ℕ → List ℕ → Type 0
There A start n t wanted =
    (s p : ℕ) → p < A.props → So (bit s (label_in wanted p)) → (s < n) × So ((own_props (domain A) (start s) t).has p)

-- at a layer whose labels agree, what is wanted has an adder with the state in its label, and what is passed down is there one layer below
module _ (A : Actions) (start : ℕ → ℕ) (labels wanted : List ℕ) {n : ℕ} (t : ℕ)
    (agrees : (s v : ℕ) → s < n → v < (domain A).vertices → bit s (label_in labels v) ≡ (own_actions (domain A) (own_props (domain A) (start s) t)).has v)
    (there : There A start n (suc t) wanted) where
  there_added : HasAdders A labels wanted
  unfolding domain
  there_added s p h u =
      let (k, w) = there s p h u in
      let (v, l, a, b) = has_adder (domain A) (start s) t p w in
      (v, a, agrees s v k l ∙ b)

  there_below : {marks : ℕ} {needed : List ℕ} → cover A labels wanted ≡ covered marks needed → There A start n t needed
  unfolding domain own_actions layer_with
  there_below {marks} {needed} e s p h u =
      let (w, d) = cover_source A labels wanted marks needed e h u in
      let (k, _) = there s w.0 w.1 w.2 in
      (k, admits_has _ _ (sym (agrees s d.vertex k d.known) ∙ d.labelled) h d.needs)

-- the goals at the level: each is needed for the states of the set
abbrev pub goals : Actions → ℕ → ℕ → List ℕ
goals A set goal = list_over A.props (λ p. keep (bit p goal) set)

-- a plan of m words that works: with deletes left out, it leads each state of the set to the goals
pub record RelaxedPlan (A : Actions) (start : ℕ → ℕ) (n m set goal : ℕ) (plan : List ℕ) : Type 0 where
  pub sized : length plan ≡ m
  pub bounded : (i : ℕ) → get_or plan i 0 < 2 ^ A.count
  pub works : (s : ℕ) → s < n → So (bit s set) → So (within goal (relaxed_run A plan (start s)))

-- at the level, the plan is that of the goals
pub plan_of_at : (A : Actions) (k set goal : ℕ) (words : List ℕ) {m : ℕ} → level_of (shape_of (domain A)) k set goal words ≡ level m
    → plan_of A k set goal words ≡ descend A words m (goals A set goal) []
unfolding plan_of plan_at
plan_of_at A k set goal words e = ap (plan_at A set goal words) e

goal_bit : (A : Actions) (set goal s : ℕ) {p : ℕ} → p < A.props → bit s (label_in (goals A set goal) p) ≡ (bit p goal and bit s set)
unfolding label_in
goal_bit A set goal s {p} h = ap (bit s) (get_d_list_over (λ p. keep (bit p goal) set) h) ∙ bit_keep s (bit p goal) set

module _ (A : Actions) (start : ℕ → ℕ) (words : List ℕ) {n : ℕ} (m : ℕ) (sound : Sound A)
    (start_agrees : (s p : ℕ) → s < n → p < A.props → bit s (label_in (props_in (shape_of (domain A)) words 0) p) ≡ bit p (start s)) where
  -- over a layer 0 that agrees, any plan that is answered works
  pub plan_works : {set goal : ℕ} → goal < 2 ^ A.props → {plan : List ℕ} → descend A words m (goals A set goal) [] ≡ planned plan
      → RelaxedPlan A start n m set goal plan
  unfolding relaxed_run
  plan_works {set} {goal} known {plan} e =
      let d = descend_descends A words m e in
      record {
        sized = omega (arith, d.sized);
        bounded = d.bounded sound (λ i. pow_pos A.count);
        works = λ s h t.
            let (y, r, f) = d.reaches sound s (start s) (λ q k u. sym (start_agrees s q h k) ∙ u) in
            within_of (relaxed_run A plan (start s)) known (λ p l g. ap (bit p) r ∙ f p l (goal_bit A set goal s l ∙ and_of g t));
      }

  module _ (actions_agree : (t s v : ℕ) → t < m → s < n → v < (domain A).vertices
      → bit s (label_in (actions_in (shape_of (domain A)) words t) v) ≡ (own_actions (domain A) (own_props (domain A) (start s) t)).has v) where
    -- from what is there, no layer leaves a state uncovered
    descend_made : (t : ℕ) → t ≤ m → (wanted plan : List ℕ) → There A start n t wanted → (plan' : List ℕ) × (descend A words t wanted plan ≡ planned plan')
    unfolding descend ground own_props own_from own_start
    descend_made zero l wanted plan there = (
      plan,
      choose_held _ (all_of_lem (λ p h. within_of _ width (λ s k t.
          let (i, u) = there s p h t in
          start_agrees s p i h ∙ u))),
    )
    descend_made (suc t) l wanted plan there =
        let labels = actions_in (shape_of (domain A)) words t in
        let (marks, needed, e) = cover_made A labels wanted (there_added A start labels wanted t (λ s v h k. actions_agree t s v l h k) there) in
        let below = there_below A start labels wanted t (λ s v h k. actions_agree t s v l h k) there e in
        let (plan', d) = descend_made t (omega arith) needed (marks ∷ plan) below in
        (plan', descend_next A words t wanted plan e ∙ d)

    -- over words that agree, a plan is answered for goals that are in each state's own graph at layer m, and it works
    pub plan_made : {set goal : ℕ} → set < 2 ^ n → goal < 2 ^ A.props
        → ((s : ℕ) → s < n → So (bit s set) → (p : ℕ) → p < A.props → So (bit p goal) → So ((own_props (domain A) (start s) m).has p))
        → (plan : List ℕ) × (descend A words m (goals A set goal) [] ≡ planned plan) × RelaxedPlan A start n m set goal plan
    plan_made {set} {goal} l known at_level =
        let (plan, e) = descend_made m (omega arith) (goals A set goal) [] there in
        (plan, e, plan_works known e)
      where
        there : There A start n m (goals A set goal)
        there s p h t =
            let u : So (bit p goal and bit s set) = sym (goal_bit A set goal s h) ∙ t in
            let k : s < n = bit_below l (and_right _ u) in
            (k, at_level s k (and_right _ u) p h (and_left _ u))
