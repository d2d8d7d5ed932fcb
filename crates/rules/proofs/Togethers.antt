-- Layers by what is together in them: what a layer says of two elements, an action layer over a proposition layer, and the next proposition layer.
-- Assumes nothing.
use Prim.Native.Nat.{ℕ, ◌<◌}
use mathlib.Core.Path.{◌≡◌, refl, sym, ap, ap₂, ◌∙◌}
use mathlib.Core.Bool.{Bool, true, false, So}
use mathlib.Core.Logic.{⊎_elim}
use native.Mathlib.Omega.{arith}
use mathlib.Core.List.{List}
use Rattle.rules.specs.Test.{◌and◌, fails, same, choose}
use Rattle.rules.specs.Word.{bit, common, without}
use Rattle.rules.specs.Over.{join_of, meet_of, any_below}
use Rattle.rules.specs.Domain.{Domain}
use Rattle.rules.specs.Layer.{layer_of, paired, label_in, mutex_in, free_in}
use Rattle.rules.specs.Shared.{start_label, needs_label, needs_apart, vertex_label, needs_mutex, vertex_mutex, action_layer, next_label, next_mutex, next_layer}
use Rattle.rules.specs.Together.{layer_by, Consistent, beside, next_together}
use Rattle.rules.proofs.Tests.{choose_held, choose_failed, and_of, and_left, and_right, fails_of, fails_at, holds_or, test_eq, same_of, same_at}
use Rattle.rules.proofs.Overs.{any_of, any_at, bit_keep, bit_join_over}
use Rattle.rules.proofs.Words.{bit_common, bit_without, ext_all}
use Rattle.rules.proofs.Layers.{label_back, mutex_back, layer_eq, paired_rising, paired_turn, which}
use Rattle.rules.proofs.Members.{rows_at, rows_of, meet_of_at, meet_of_of, mutex_turn, mutex_self, bit_free, needs_own, needs_rows}
use Rattle.rules.proofs.Members.{bit_start_label, next_free}

-- ---- words

-- what is in a and in what a has besides b
pub less_less : (a b : ℕ) → without a (without a b) ≡ common a b
unfolding ◌and◌ fails
less_less a b = ext_all (λ s.
    bit_without s a (without a b) ∙ ap (λ (x : Bool). bit s a and fails x) (bit_without s a b) ∙ go (bit s a) (bit s b) ∙ sym (bit_common s a b))
  where
    go : (x y : Bool) → (x and fails (x and fails y)) ≡ (x and y)
    go true true = refl
    go true false = refl
    go false y = refl

pub common_part : (a : ℕ) {b : ℕ} → ((s : ℕ) → So (bit s b) → So (bit s a)) → common a b ≡ b
common_part a {b} h = ext_all (λ s. bit_common s a b ∙ test_eq (λ t. and_right _ t) (λ t. and_of (h s t) t))

pub common_turn : (a b : ℕ) → common a b ≡ common b a
common_turn a b = ext_all (λ s. bit_common s a b ∙ test_eq (turn _ _) (turn _ _) ∙ sym (bit_common s b a))
  where
    turn : (x y : Bool) → So (x and y) → So (y and x)
    turn x y t = and_of (and_right _ t) (and_left _ t)

-- ---- what a layer says is together

pub free_turn : (n : ℕ) (l : List ℕ) (i j : ℕ) → free_in n l i j ≡ free_in n l j i
unfolding free_in
free_turn n l i j = ap₂ without (common_turn (label_in l i) (label_in l j)) (mutex_turn n l i j)

pub free_own : (n : ℕ) (l : List ℕ) (i : ℕ) → free_in n l i i ≡ label_in l i
free_own n l i = ext_all (λ s. bit_free s n l i i ∙ test_eq
    (λ t. and_left _ (and_left _ t)) (λ t. and_of (and_of t t) (fails_of (λ m. mutex_self s n l refl m))))

-- layers by the same words, and words that may tell it
pub layer_by_eq : {n : ℕ} {t t' : ℕ → ℕ → ℕ} → ((i j : ℕ) → i < n → j < n → t i j ≡ t' i j) → layer_by n t ≡ layer_by n t'
unfolding layer_by
layer_by_eq {n} e = layer_eq (λ i h. e i i h h) (λ i j h k.
    let hi : i < n = omega arith in ap₂ without (ap₂ common (e i i hi hi) (e j j k k)) (e i j hi k))

pub consistent_eq : {n all : ℕ} {t t' : ℕ → ℕ → ℕ} → ((i j : ℕ) → i < n → j < n → t i j ≡ t' i j) → Consistent n all t → Consistent n all t'
consistent_eq e c = record {
  turn = λ i j h k. sym (e i j h k) ∙ c.turn i j h k ∙ e j i k h;
  part = λ s i j h k b. ap (bit s) (sym (e i i h h)) ∙ c.part s i j h k (ap (bit s) (e i j h k) ∙ b);
  inside = λ s i h b. c.inside s i h (ap (bit s) (e i i h h) ∙ b);
}

-- in a layer that was made by what is together, that is together
module _ (n all : ℕ) (t : ℕ → ℕ → ℕ) (is : Consistent n all t) where
  pub label_by : {i : ℕ} → i < n → label_in (layer_by n t) i ≡ t i i
  unfolding layer_by
  label_by h = label_back _ _ h

  rising : {i j : ℕ} → i < j → j < n → free_in n (layer_by n t) i j ≡ t i j
  unfolding free_in layer_by
  rising {i} {j} h k =
      let hi : i < n = omega arith in
      ap₂ without (ap₂ common (label_by hi) (label_by k)) (mutex_back _ _ hi k ∙ paired_rising 0 _ h)
      ∙ less_less (common (t i i) (t j j)) (t i j)
      ∙ common_part _ (λ s b. bit_common s (t i i) (t j j) ∙ and_of (is.part s i j hi k b)
      (is.part s j i k hi (ap (bit s) (is.turn j i k hi) ∙ b)))

  pub free_by : {i j : ℕ} → i < n → j < n → free_in n (layer_by n t) i j ≡ t i j
  free_by {i} {j} h k = ⊎_elim
      (λ e. let q : i ≡ j = same_at e in ap (λ (x : ℕ). free_in n (layer_by n t) i x) (sym q) ∙ free_own n (layer_by n t) i ∙ label_by h ∙ ap (t i) q)
      (λ d. let ne : i ≡ j → ⊥ = (λ q. fails_at d (same_of q)) in ⊎_elim
      (λ o. rising (omega arith) k)
      (λ o. free_turn n (layer_by n t) i j ∙ rising (omega arith) h ∙ is.turn j i k h)
      (which i j))
      (holds_or (same i j))

  -- bit s of what is together: both are there, and not mutex
  by_bits : (s : ℕ) {i j : ℕ} → i < n → j < n
      → bit s (t i j) ≡ ((bit s (label_in (layer_by n t) i) and bit s (label_in (layer_by n t) j)) and fails (bit s (mutex_in n (layer_by n t) i j)))
  by_bits s {i} {j} h k = ap (bit s) (sym (free_by h k)) ∙ bit_free s n (layer_by n t) i j

  -- ---- a vertex over such a layer: all it needs is together
  pub record Has (s needs : ℕ) : Type 0 where
    pub inside : So (bit s all)
    pub both : (p q : ℕ) → p < n → q < n → So (bit p needs) → So (bit q needs) → So (bit s (t p q))

  pub label_at : {s needs : ℕ} → So (bit s (vertex_label n all (layer_by n t) needs)) → Has s needs
  unfolding vertex_label needs_label meet_of
  label_at {s} {needs} h =
      let u = sym (bit_without s (needs_label n all (layer_by n t) needs) (needs_apart n (layer_by n t) needs)) ∙ h in
      let (i, each) = meet_of_at s needs all (label_in (layer_by n t)) (and_left _ u) in
      record {
        inside = i;
        both = λ p q hp hq mp mq. by_bits s hp hq ∙ and_of (and_of (each p hp mp) (each q hq mq)) (fails_of (λ m.
            fails_at (and_right _ u) (ap (bit s) (needs_own n (layer_by n t) needs) ∙ rows_of (record {
              p = p;
              q = q;
              p_lt = hp;
              q_lt = hq;
              p_in = mp;
              q_in = mq;
              holds = m;
            }))));
      }

  free_not : (s : ℕ) {p q : ℕ} → p < n → q < n → So (bit s (t p q)) → So (bit s (mutex_in n (layer_by n t) p q)) → ⊥
  free_not s hp hq b = fails_at (and_right _ (sym (by_bits s hp hq) ∙ b))

  pub label_of : {s needs : ℕ} → Has s needs → So (bit s (vertex_label n all (layer_by n t) needs))
  unfolding vertex_label needs_label meet_of
  label_of {s} {needs} has =
      bit_without s (needs_label n all (layer_by n t) needs) (needs_apart n (layer_by n t) needs)
      ∙ and_of (meet_of_of s needs all (label_in (layer_by n t)) has.inside (λ i h m. ap (bit s) (label_by h) ∙ has.both i i h h m m))
      (fails_of (λ o.
      let r = rows_at (sym (ap (bit s) (needs_own n (layer_by n t) needs)) ∙ o) in
      free_not s r.p_lt r.q_lt (has.both r.p r.q r.p_lt r.q_lt r.p_in r.q_in) r.holds))

  -- two vertices: they do not interfere, and a need of one is together with each need of the other
  abbrev Across : ℕ → ℕ → ℕ → Type 0
  Across s needs needs' = (p q : ℕ) → p < n → q < n → So (bit p needs) → So (bit q needs') → So (bit s (t p q))

  across_at : {s needs needs' : ℕ} (f : Bool) (both : ℕ) → Has s needs → Has s needs'
      → So (bit s (without both (vertex_mutex n (layer_by n t) f both needs needs'))) → So (fails f) × Across s needs needs'
  unfolding vertex_mutex choose fails
  across_at {s} true both g g' h =
      let u = sym (bit_without s both both) ∙ h in absurd (fails_at (and_right _ u) (and_left _ u))
  across_at {s} {needs} {needs'} false both g g' h =
      let u = sym (bit_without s both (common both (needs_mutex n (layer_by n t) needs needs'))) ∙ h in (
        refl,
        λ p q hp hq mp mq. by_bits s hp hq ∙ and_of
            (and_of (ap (bit s) (label_by hp) ∙ g.both p p hp hp mp mp) (ap (bit s) (label_by hq) ∙ g'.both q q hq hq mq mq))
            (fails_of (λ m. fails_at (and_right _ u) (bit_common s both (needs_mutex n (layer_by n t) needs needs') ∙ and_of (and_left _ u)
            (ap (bit s) (needs_rows n (layer_by n t) needs needs') ∙ rows_of (record {
              p = p;
              q = q;
              p_lt = hp;
              q_lt = hq;
              p_in = mp;
              q_in = mq;
              holds = m;
            }))))),
      )

  across_of : (s needs needs' : ℕ) (f : Bool) (both : ℕ) → So (bit s both) → So (fails f) → Across s needs needs'
      → So (bit s (without both (vertex_mutex n (layer_by n t) f both needs needs')))
  unfolding vertex_mutex choose
  across_of s needs needs' true both b f g = absurd (fails_at f refl)
  across_of s needs needs' false both b f g =
      bit_without s both (common both (needs_mutex n (layer_by n t) needs needs')) ∙ and_of b (fails_of (λ m.
      let r = rows_at
      (sym (ap (bit s) (needs_rows n (layer_by n t) needs needs')) ∙ and_right _ (sym (bit_common s both (needs_mutex n (layer_by n t) needs needs')) ∙ m)) in
      free_not s r.p_lt r.q_lt (g r.p r.q r.p_lt r.q_lt r.p_in r.q_in) r.holds))

-- ---- the action layer

-- any action layer is made by what is together in it
pub action_by : (D : Domain) (all : ℕ) (l : List ℕ) → action_layer D all l ≡ layer_by D.vertices (free_in D.vertices (action_layer D all l))
unfolding action_layer layer_by vertex_mutex free_in
action_by D all l = layer_eq (λ v h. sym (own v h)) (λ v w h k.
    let hv : v < m = omega arith in
    sym (less_less (common (lab v) (lab w)) (word v w) ∙ common_part (common (lab v) (lab w)) (λ s b.
    mutex_both s (D.interfere v w) (common (lab v) (lab w)) (needs_mutex D.props l (D.needs v) (D.needs w)) b))
    ∙ ap₂ without (ap₂ common (sym (own v hv)) (sym (own w k)))
    (sym (ap₂ without (ap₂ common (label_back lab word hv) (label_back lab word k)) (mutex_back lab word hv k ∙ paired_rising 0 word h))))
  where
    m : ℕ
    m = D.vertices

    lab : ℕ → ℕ
    lab v = vertex_label D.props all l (D.needs v)

    word : ℕ → ℕ → ℕ
    word v w = vertex_mutex D.props l (D.interfere v w) (common (lab v) (lab w)) (D.needs v) (D.needs w)

    own : (v : ℕ) → v < m → free_in m (layer_of m lab word) v v ≡ lab v
    own v h = free_own m (layer_of m lab word) v ∙ label_back lab word h

    mutex_both : (s : ℕ) (f : Bool) (both x : ℕ) → So (bit s (choose f both (common both x))) → So (bit s both)
    mutex_both s f both x b = ⊎_elim (λ h. ap (bit s) (sym (choose_held _ h)) ∙ b)
        (λ h. and_left _ (sym (bit_common s both x) ∙ (ap (bit s) (sym (choose_failed f _ h)) ∙ b))) (holds_or f)

module _ (D : Domain) (all : ℕ) (t : ℕ → ℕ → ℕ) (is : Consistent D.props all t) where
  abbrev pub over : List ℕ
  over = action_layer D all (layer_by D.props t)

  pub vertex_label_lem : {v : ℕ} → v < D.vertices → label_in over v ≡ vertex_label D.props all (layer_by D.props t) (D.needs v)
  unfolding action_layer
  vertex_label_lem h = label_back _ _ h

  -- what the labels of two vertices share
  abbrev both_of : ℕ → ℕ → ℕ
  both_of v w = common (vertex_label D.props all (layer_by D.props t) (D.needs v)) (vertex_label D.props all (layer_by D.props t) (D.needs w))

  -- bit s of what two different vertices are together in
  pub record Goes (s v w : ℕ) : Type 0 where
    pub left : Has D.props all t is s (D.needs v)
    pub right : Has D.props all t is s (D.needs w)
    pub apart : So (fails (paired false D.interfere v w))
    pub across : (p q : ℕ) → p < D.props → q < D.props → So (bit p (D.needs v)) → So (bit q (D.needs w)) → So (bit s (t p q))

  goes_turn : {s v w : ℕ} → Goes s v w → Goes s w v
  goes_turn {s} {v} {w} g = record {
    left = g.right;
    right = g.left;
    apart = fails_of (λ c. fails_at g.apart (paired_turn D.interfere w v c));
    across = λ p q hp hq mp mq. ap (bit s) (is.turn p q hp hq) ∙ g.across q p hq hp mq mp;
  }

  free_rising : {v w : ℕ} → v < w → w < D.vertices → free_in D.vertices over v w
      ≡ without (both_of v w) (vertex_mutex D.props (layer_by D.props t) (D.interfere v w) (both_of v w) (D.needs v) (D.needs w))
  unfolding free_in action_layer
  free_rising h k =
      ap₂ without (ap₂ common (vertex_label_lem (omega arith)) (vertex_label_lem k)) (mutex_back _ _ (omega arith) k ∙ paired_rising 0 _ h)

  rising_at : {s v w : ℕ} → v < w → w < D.vertices → So (bit s (free_in D.vertices over v w)) → Goes s v w
  rising_at {s} {v} {w} h k b =
      let u = sym (ap (bit s) (free_rising h k)) ∙ b in
      let c = sym (bit_common s (vertex_label D.props all (layer_by D.props t) (D.needs v)) (vertex_label D.props all (layer_by D.props t) (D.needs w)))
      ∙ and_left _ (sym (bit_without s _ _) ∙ u) in
      let l = label_at D.props all t is (and_left _ c) in
      let r = label_at D.props all t is (and_right _ c) in
      let (f, g) = across_at D.props all t is (D.interfere v w) (both_of v w) l r u in
      record { left = l; right = r; apart = fails_of (λ x. fails_at f (sym (paired_rising false D.interfere h) ∙ x)); across = g }

  rising_of : {s v w : ℕ} → v < w → w < D.vertices → Goes s v w → So (bit s (free_in D.vertices over v w))
  rising_of {s} {v} {w} h k g =
      ap (bit s) (free_rising h k)
      ∙ across_of D.props all t is s (D.needs v) (D.needs w) (D.interfere v w) (both_of v w)
      (bit_common s _ _ ∙ and_of (label_of D.props all t is g.left) (label_of D.props all t is g.right))
      (fails_of (λ x. fails_at g.apart (paired_rising false D.interfere h ∙ x))) g.across

  pub goes_at : {s v w : ℕ} → v < D.vertices → w < D.vertices → (v ≡ w → ⊥) → So (bit s (free_in D.vertices over v w)) → Goes s v w
  goes_at {s} {v} {w} h k ne b = ⊎_elim
      (λ o. rising_at (omega arith) k b)
      (λ o. goes_turn (rising_at (omega arith) h (ap (bit s) (free_turn D.vertices over w v) ∙ b)))
      (which v w)

  pub goes_of : {s v w : ℕ} → v < D.vertices → w < D.vertices → (v ≡ w → ⊥) → Goes s v w → So (bit s (free_in D.vertices over v w))
  goes_of {s} {v} {w} h k ne g = ⊎_elim
      (λ o. rising_of (omega arith) k g)
      (λ o. ap (bit s) (free_turn D.vertices over v w) ∙ rising_of (omega arith) h (goes_turn g))
      (which v w)

-- ---- the next proposition layer, over any action layer

module _ (D : Domain) (a : List ℕ) where
  pub record Added (s p q : ℕ) : Type 0 where
    pub v : ℕ
    pub w : ℕ
    pub v_lt : v < D.vertices
    pub w_lt : w < D.vertices
    pub adds_p : So (bit p (D.adds v))
    pub adds_q : So (bit q (D.adds w))
    pub free : So (bit s (free_in D.vertices a v w))

  beside_bits : (s v p : ℕ) → bit s (beside D a v p) ≡ any_below D.vertices (λ w. bit p (D.adds w) and bit s (free_in D.vertices a v w))
  unfolding beside
  beside_bits s v p = bit_join_over s _ (λ w h. bit_keep s (bit p (D.adds w)) _)

  pub beside_of_lem : (s v p : ℕ) {w : ℕ} → w < D.vertices → So (bit p (D.adds w)) → So (bit s (free_in D.vertices a v w)) → So (bit s (beside D a v p))
  beside_of_lem s v p h m b = beside_bits s v p ∙ any_of _ h (and_of m b)

  pub beside_at : (s v p : ℕ) → So (bit s (beside D a v p))
      → (w : ℕ) × (w < D.vertices) × So (bit p (D.adds w)) × So (bit s (free_in D.vertices a v w))
  beside_at s v p b =
      let (w, h, u) = any_at (sym (beside_bits s v p) ∙ b) in
      (w, h, and_left _ u, and_right _ u)

  next_bits : (s p q : ℕ) → bit s (next_together D a p q) ≡ any_below D.vertices (λ v. bit p (D.adds v) and bit s (beside D a v q))
  unfolding next_together
  next_bits s p q = bit_join_over s _ (λ v h. bit_keep s (bit p (D.adds v)) _)

  pub added_of : {s p q : ℕ} → Added s p q → So (bit s (next_together D a p q))
  added_of {s} {p} {q} r =
      next_bits s p q ∙ any_of _ r.v_lt (and_of r.adds_p (beside_of_lem s r.v q r.w_lt r.adds_q r.free))

  pub added_at : {s p q : ℕ} → So (bit s (next_together D a p q)) → Added s p q
  added_at {s} {p} {q} b =
      let (v, h, u) = any_at (sym (next_bits s p q) ∙ b) in
      let (w, k, m, f) = beside_at s v q (and_right _ u) in
      record { v = v; w = w; v_lt = h; w_lt = k; adds_p = and_left _ u; adds_q = m; free = f }

  pub added_turn : {s p q : ℕ} → Added s p q → Added s q p
  added_turn {s} r = record {
    v = r.w;
    w = r.v;
    v_lt = r.w_lt;
    w_lt = r.v_lt;
    adds_p = r.adds_q;
    adds_q = r.adds_p;
    free = ap (bit s) (free_turn D.vertices a r.w r.v) ∙ r.free;
  }

  free_label : (s v w : ℕ) → So (bit s (free_in D.vertices a v w)) → So (bit s (label_in a v))
  free_label s v w b = and_left _ (and_left _ (sym (bit_free s D.vertices a v w) ∙ b))

  added_own : {s p v : ℕ} → v < D.vertices → So (bit p (D.adds v)) → So (bit s (label_in a v)) → Added s p p
  added_own {s} {v} h m b = record {
    v = v;
    w = v;
    v_lt = h;
    w_lt = h;
    adds_p = m;
    adds_q = m;
    free = ap (bit s) (free_own D.vertices a v) ∙ b;
  }

  label_bits : (s p : ℕ) → bit s (next_label D.vertices D.adds a p) ≡ any_below D.vertices (λ v. bit p (D.adds v) and bit s (label_in a v))
  unfolding next_label
  label_bits s p = bit_join_over s _ (λ v h. bit_keep s (bit p (D.adds v)) _)

  next_own : (p : ℕ) → next_label D.vertices D.adds a p ≡ next_together D a p p
  next_own p = ext_all (λ s. test_eq (λ b. let (v, h, u) = any_at (sym (label_bits s p) ∙ b) in
      added_of (added_own h (and_left _ u) (and_right _ u)))
      (λ b. let r = added_at b in
      label_bits s p ∙ any_of _ r.v_lt (and_of r.adds_p (free_label s r.v r.w r.free))))

  -- the next mutex word: what both have, without what is together
  next_less : (both p q : ℕ) → next_mutex D.vertices D.adds a both p q ≡ without both (next_together D a p q)
  next_less both p q =
      sym (next_free m D.adds a p q (adders p) (adders q) (λ v h. bit_start_label D.adds p h) (λ v h. bit_start_label D.adds q h) both)
      ∙ ap (without both) (ext_all (λ s. test_eq (to s) (from s)))
    where
      m : ℕ
      m = D.vertices

      adders : ℕ → ℕ
      adders = start_label m D.adds

      to : (s : ℕ) → So (bit s (join_of m (adders q) (λ w. join_of m (adders p) (λ v. free_in m a v w)))) → So (bit s (next_together D a p q))
      to s b =
          let r = rows_at b in
          added_of (record {
            v = r.p;
            w = r.q;
            v_lt = r.p_lt;
            w_lt = r.q_lt;
            adds_p = sym (bit_start_label D.adds p r.p_lt) ∙ r.p_in;
            adds_q = sym (bit_start_label D.adds q r.q_lt) ∙ r.q_in;
            free = r.holds;
          })

      from : (s : ℕ) → So (bit s (next_together D a p q)) → So (bit s (join_of m (adders q) (λ w. join_of m (adders p) (λ v. free_in m a v w))))
      from s b =
          let r = added_at b in
          rows_of (record {
            p = r.v;
            q = r.w;
            p_lt = r.v_lt;
            q_lt = r.w_lt;
            p_in = bit_start_label D.adds p r.v_lt ∙ r.adds_p;
            q_in = bit_start_label D.adds q r.w_lt ∙ r.adds_q;
            holds = r.free;
          })

  pub next_by : next_layer D a ≡ layer_by D.props (next_together D a)
  unfolding next_layer layer_by
  next_by = layer_eq (λ p h. next_own p) (λ p q h k.
      next_less _ p q ∙ ap (λ (x : ℕ). without x (next_together D a p q)) (ap₂ common (next_own p) (next_own q)))

  pub next_together_lem : {all : ℕ} → ((s v : ℕ) → v < D.vertices → So (bit s (label_in a v)) → So (bit s all)) → Consistent D.props all (next_together D a)
  next_together_lem inside = record {
    turn = λ p q h k. ext_all (λ s. test_eq (λ b. added_of (added_turn (added_at b))) (λ b. added_of (added_turn (added_at b))));
    part = λ s p q h k b. let r = added_at b in added_of (added_own r.v_lt r.adds_p (free_label s r.v r.w r.free));
    inside = λ s p h b. let r = added_at b in inside s r.v r.v_lt (free_label s r.v r.w r.free);
  }
