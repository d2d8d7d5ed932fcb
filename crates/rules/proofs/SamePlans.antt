-- The search for support of the states of a set reads what vertices need and add, and of each word those states only: where these are the same, the plan is.
-- Assumes nothing.
use mathlib.Core.Path.{◌≡◌, refl, sym, ap, subst, ◌∙◌}
use mathlib.Core.Bool.{Bool, So}
use mathlib.Core.Logic.{⊎_elim}
use mathlib.Core.List.{List, [], ◌∷◌, Memᴰ}
use Prim.Native.Nat.{ℕ, zero, suc, ◌+◌, ◌≤◌, ◌<◌}
use native.Mathlib.Nat.{le_refl}
use native.Mathlib.Omega.{arith}
use Rattle.rules.specs.Test.{◌and◌, fails, same, below, choose}
use Rattle.rules.specs.Word.{bit, common, union, without, single, within}
use Rattle.rules.specs.Over.{keep, all_below}
use Rattle.rules.specs.Lists.{list_over}
use Rattle.rules.specs.Domain.{shape_of, Actions, persistence, needs_of, adds_of, domain}
use Rattle.rules.specs.Layer.{label_in, props_in, actions_in}
use Rattle.rules.specs.Level.{Level, level, never, not_by_depth, level_of}
use Rattle.rules.specs.declared.Shape.{Shape}
use Rattle.rules.specs.Plan.{Support, takes, order, support, Covered, covered, uncovered, cover_from, cover, planned, stuck, ground, descend, plan_at}
use Rattle.rules.specs.Plan.{plan_of}
use Rattle.rules.proofs.Tests.{choose_held, choose_failed, choose_same, and_of, and_left, and_right, holds_or, test_eq, below_at}
use Rattle.rules.proofs.Words.{bit_common, common_lt, ext, width, within_of, within_at}
use Rattle.rules.proofs.Overs.{all_eq, bit_keep}
use Rattle.rules.proofs.Layers.{get_d_list_over}
use Rattle.rules.proofs.Supports.{order_vertices, takes_left}
use Rattle.rules.proofs.Plans.{goals, search_of, cover_source, descend_next, descend_stuck}

-- the same actions, as far as a plan reads them
pub record SameNeeds (A A' : Actions) : Type 0 where
  pub props : A.props ≡ A'.props
  pub effects : A.effects ≡ A'.effects
  pub owner : (e : ℕ) → e < A.effects → A.owner e ≡ A'.owner e
  pub needs : (v : ℕ) → needs_of A v ≡ needs_of A' v
  pub adds : (v : ℕ) → adds_of A v ≡ adds_of A' v

-- two words have the same of the states of the set
abbrev pub AgreeIn : ℕ → ℕ → ℕ → Type 0
AgreeIn set w w' = (i : ℕ) → So (bit i set) → bit i w ≡ bit i w'

-- a word has states of the set only
abbrev pub Inside : ℕ → ℕ → Type 0
Inside set w = (i : ℕ) → So (bit i w) → So (bit i set)

module _ (set a w w' : ℕ) (h : Inside set a) (e : AgreeIn set w w') where
  common_same : common a w ≡ common a w'
  common_same =
      ext (common_lt a w width) (common_lt a w' width)
      (λ i _. bit_common i a w
      ∙ test_eq (λ t. and_of (and_left _ t) (sym (e i (h i (and_left _ t))) ∙ and_right _ t))
      (λ t. and_of (and_left _ t) (e i (h i (and_left _ t)) ∙ and_right _ t))
      ∙ sym (bit_common i a w'))

  within_same : within a w ≡ within a w'
  within_same = test_eq (λ t. within_of w' width (λ i l b. sym (e i (h i b)) ∙ within_at a w i t b))
      (λ t. within_of w width (λ i l b. e i (h i b) ∙ within_at a w' i t b))

-- what is wanted, for states of the set only
abbrev pub WantedIn : Actions → ℕ → List ℕ → Type 0
WantedIn A set wanted = (q : ℕ) → q < A.props → Inside set (label_in wanted q)

-- ---- one layer

module _ (A : Actions) {A' : Actions} (same_needs : SameNeeds A A') (set : ℕ) (labels labels' : List ℕ)
    (agree : (v : ℕ) → v < A.effects + A.props → AgreeIn set (label_in labels v) (label_in labels' v)) where
  takes_same : {v : ℕ} → v < A.effects + A.props → (s : Support) → Inside set s.left → takes A labels v s ≡ takes A' labels' v s
  unfolding takes
  takes_same {v} l s h j =
      let took : ℕ = took_same j in
      record {
        left = without s.left took;
        marks = marks_same j;
        needed = list_over (same_needs.props j) (λ q. union (label_in s.needed q) (keep (bit q (same_needs.needs v j)) took));
      }
    where
      took_same : common s.left (label_in labels v) ≡ common s.left (label_in labels' v)
      took_same = common_same set s.left (label_in labels v) (label_in labels' v) h (agree v l)

      marked : Actions → ℕ → ℕ → ℕ
      marked B took a = choose (below v B.effects and fails (same took 0)) (union s.marks (single a)) s.marks

      marks_same : marked A (common s.left (label_in labels v)) (A.owner v) ≡ marked A' (common s.left (label_in labels' v)) (A'.owner v)
      marks_same =
          choose_same _ (λ b. ap (λ (a : ℕ). union s.marks (single a)) (same_needs.owner v (below_at (and_left _ b))))
          ∙ λ j. choose (below v (same_needs.effects j) and fails (same (took_same j) 0)) (union s.marks (single (A'.owner v))) s.marks

  still_inside : (p v : ℕ) (s : Support) → Inside set s.left → Inside set (choose (bit p (adds_of A' v)) (takes A' labels' v s) s).left
  still_inside p v s h i b = ⊎_elim
      (λ t. h i (and_left _ (sym (takes_left A' labels' v s i) ∙ subst (λ (x : Support). So (bit i x.left)) (choose_held _ t) b)))
      (λ t. h i (subst (λ (x : Support). So (bit i x.left)) (choose_failed _ _ t) b))
      (holds_or (bit p (adds_of A' v)))

  support_same : (p : ℕ) (vs : List ℕ) (s : Support) → Inside set s.left → ((v : ℕ) → Memᴰ v vs → v < A.effects + A.props)
      → support A labels p vs s ≡ support A' labels' p vs s
  unfolding support
  support_same p [] s h m = refl
  support_same p (v ∷ vs) s h m =
      let e : choose (bit p (adds_of A v)) (takes A labels v s) s ≡ choose (bit p (adds_of A' v)) (takes A' labels' v s) s =
      λ j. choose (bit p (same_needs.adds v j)) (takes_same (m v (Memᴰ.head refl)) s h j) s in
      ap (λ (x : Support). choose (same s.left 0) s (support A labels p vs x)) e
      ∙ ap (λ (x : Support). choose (same s.left 0) s x) (support_same p vs _ (still_inside p v s h) (λ w k. m w (Memᴰ.tail k)))

  order_same : (p : ℕ) → order A p ≡ order A' p
  unfolding order persistence
  order_same p j = (same_needs.effects j + p) ∷ list_over (same_needs.effects j) (λ e. e)

  module _ (wanted : List ℕ) (inside : WantedIn A set wanted) where
    search_same : {p : ℕ} (marks : ℕ) (needed : List ℕ) → p < A.props → search_of A labels wanted p marks needed ≡ search_of A' labels' wanted p marks needed
    search_same {p} marks needed l =
        let s : Support = record { left = label_in wanted p; marks = marks; needed = needed } in
        support_same p (order A p) s (inside p l) (λ v. order_vertices A l) ∙ ap (λ (vs : List ℕ). support A' labels' p vs s) (order_same p)

    cover_from_same : (n p marks : ℕ) (needed : List ℕ) → p + n ≤ A.props
        → cover_from A labels wanted n p marks needed ≡ cover_from A' labels' wanted n p marks needed
    unfolding cover_from
    cover_from_same zero p marks needed l = refl
    cover_from_same (suc n) p marks needed l =
        ap (λ (s : Support). choose (same s.left 0) (cover_from A labels wanted n (suc p) s.marks s.needed) uncovered)
        (search_same marks needed (omega arith))
        ∙ ap (λ (x : Covered). choose (same (search_of A' labels' wanted p marks needed).left 0) x uncovered) (cover_from_same n (suc p) _ _ (omega arith))

    cover_same : cover A labels wanted ≡ cover A' labels' wanted
    unfolding cover
    cover_same =
        cover_from_same A.props 0 0 (list_over A.props (λ q. 0)) (omega arith)
        ∙ ap (λ (n : ℕ). cover_from A' labels' wanted n 0 0 (list_over n (λ q. 0))) same_needs.props

-- ---- all layers

module _ {A A' : Actions} (same_needs : SameNeeds A A') (set : ℕ) {k : ℕ} (words words' : List ℕ)
    (props_agree : (p : ℕ) → p < A.props → AgreeIn set (label_in (props_in (shape_of (domain A)) words 0) p) (label_in (props_in (shape_of (domain A')) words' 0) p))
    (actions_agree : (t : ℕ) → t < k → (v : ℕ) → v < A.effects + A.props
    → AgreeIn set (label_in (actions_in (shape_of (domain A)) words t) v) (label_in (actions_in (shape_of (domain A')) words' t) v)) where
  ground_same : (wanted plan : List ℕ) → WantedIn A set wanted → ground A words wanted plan ≡ ground A' words' wanted plan
  unfolding ground
  ground_same wanted plan inside =
      ap (λ (b : Bool). choose b (planned plan) (stuck 0))
      (all_eq (λ p h. within_same set (label_in wanted p) _ _ (inside p h) (props_agree p h))
      ∙ ap (λ (n : ℕ). all_below n (λ p. within (label_in wanted p) (label_in (props_in (shape_of (domain A')) words' 0) p))) same_needs.props)

  -- one layer down, where the layers below go the same way
  layer_same : {t : ℕ} → t < k → ((wanted plan : List ℕ) → WantedIn A set wanted → descend A words t wanted plan ≡ descend A' words' t wanted plan)
      → (wanted plan : List ℕ) → WantedIn A set wanted → descend A words (suc t) wanted plan ≡ descend A' words' (suc t) wanted plan
  layer_same {t} l lower wanted plan inside = go (cover A (actions_in (shape_of (domain A)) words t) wanted) refl
    where
      other : cover A (actions_in (shape_of (domain A)) words t) wanted ≡ cover A' (actions_in (shape_of (domain A')) words' t) wanted
      other = cover_same A same_needs set _ _ (actions_agree t l) wanted inside

      go : (x : Covered) → cover A (actions_in (shape_of (domain A)) words t) wanted ≡ x
          → descend A words (suc t) wanted plan ≡ descend A' words' (suc t) wanted plan
      go (covered marks needed) e =
          descend_next A words t wanted plan e
          ∙ lower needed (marks ∷ plan)
          (λ q h i b. let ((p, m, u), _) = cover_source A (actions_in (shape_of (domain A)) words t) wanted marks needed e h b in inside p m i u)
          ∙ sym (descend_next A' words' t wanted plan (sym other ∙ e))
      go uncovered e = descend_stuck A words wanted plan e ∙ sym (descend_stuck A' words' wanted plan (sym other ∙ e))

  pub descend_same : (t : ℕ) → t ≤ k → (wanted plan : List ℕ) → WantedIn A set wanted → descend A words t wanted plan ≡ descend A' words' t wanted plan
  unfolding descend
  descend_same zero l wanted plan inside = ground_same wanted plan inside
  descend_same (suc t) l wanted plan inside = layer_same l (descend_same t (omega arith)) wanted plan inside

-- the goals are wanted for states of the set only
pub goals_inside : (A : Actions) (set goal : ℕ) → WantedIn A set (goals A set goal)
unfolding label_in
goals_inside A set goal q h i b =
    and_right _ (sym (bit_keep i (bit q goal) set) ∙ sym (ap (bit i) (get_d_list_over (λ p. keep (bit p goal) set) h)) ∙ b)

-- ---- the same words

module _ {A B : Actions} (same_needs : SameNeeds A B) where
  shape_same : shape_of (domain A) ≡ shape_of (domain B)
  unfolding domain
  shape_same i = record { props = same_needs.props i; vertices = same_needs.effects i + same_needs.props i }

  at_same : (set goal : ℕ) (words : List ℕ) (l : Level) → plan_at A set goal words l ≡ plan_at B set goal words l
  unfolding plan_at
  at_same set goal words (level t) =
      descend_same same_needs set words words
      (λ p h i b. ap (λ (S : Shape). bit i (label_in (props_in S words 0) p)) shape_same)
      (λ u l v h i b. ap (λ (S : Shape). bit i (label_in (actions_in S words u) v)) shape_same)
      t (le_refl t) (goals A set goal) [] (goals_inside A set goal)
      ∙ ap (λ (n : ℕ). descend B words t (list_over n (λ p. keep (bit p goal) set)) []) same_needs.props
  at_same set goal words never = refl
  at_same set goal words not_by_depth = refl

  pub plan_same : (k set goal : ℕ) (words : List ℕ) → plan_of A k set goal words ≡ plan_of B k set goal words
  unfolding plan_of
  plan_same k set goal words =
      at_same set goal words (level_of (shape_of (domain A)) k set goal words)
      ∙ ap (λ (S : Shape). plan_at B set goal words (level_of S k set goal words)) shape_same
