-- One search for support, over any words: what a vertex takes, and what the search leaves, marks and needs.
-- Assumes nothing.
use mathlib.Core.Path.{◌≡◌, refl, sym, ap, subst, ◌∙◌}
use mathlib.Core.Bool.{Bool, true, false, So}
use mathlib.Core.Logic.{◌⊎◌, inl, inr, ⊎_elim}
use mathlib.Core.List.Memᴰ
use mathlib.Core.List.{List, [], ◌∷◌, Memᴰ}
use Prim.Native.Nat.{ℕ, ◌+◌, ◌-◌, ◌^◌, ◌<◌}
use native.Mathlib.Omega.{arith}
use Rattle.rules.specs.Test.{◌and◌, ◌or◌, fails, same, below}
use Rattle.rules.specs.Word.{bit, common, union, single}
use Rattle.rules.specs.Over.{keep}
use Rattle.rules.specs.Domain.{Actions, Sound, persistence, needs_of, adds_of}
use Rattle.rules.specs.Layer.{label_in}
use Rattle.rules.specs.Plan.{Support, takes, order, support}
use Rattle.rules.proofs.Tests.{choose_held, choose_failed, and_of, and_left, and_right, or_left, or_right, or_at, fails_of, fails_at, holds_or, same_of}
use Rattle.rules.proofs.Tests.{same_at, below_of, below_at, below_fails}
use Rattle.rules.proofs.Words.{bit_common, bit_union, bit_without, no_bit_zero, single_has, single_only, union_lt, single_lt}
use Rattle.rules.proofs.Overs.{bit_keep, choose_lt}
use Rattle.rules.proofs.Layers.{get_d_list_over, list_over_has, list_over_of}

-- ---- the list of candidates

-- what adds p is an effect or the persistence of p
pub adder : (A : Actions) (p : ℕ) {v : ℕ} → So (bit p (adds_of A v)) → (v < A.effects) ⊎ (v ≡ persistence A p)
unfolding adds_of persistence
adder A p {v} t = ⊎_elim (λ b. inl (below_at b)) (λ f. inr (kept f)) (holds_or (below v A.effects))
  where
    kept : So (fails (below v A.effects)) → v ≡ A.effects + p
    kept f =
        let e : p ≡ v - A.effects = single_only (choose_failed _ _ f) t in
        omega (arith, below_fails f)

-- so each vertex that adds p is a candidate, and the candidates are vertices
pub order_has : (A : Actions) (p : ℕ) {v : ℕ} → So (bit p (adds_of A v)) → Memᴰ v (order A p)
unfolding order
order_has A p t = ⊎_elim (λ l. Memᴰ.tail (list_over_has A.effects (λ e. e) l)) (λ e. Memᴰ.head e) (adder A p t)

pub order_vertices : (A : Actions) {p : ℕ} → p < A.props → {v : ℕ} → Memᴰ v (order A p) → v < A.effects + A.props
unfolding order persistence
order_vertices A h m =
    ⊎_elim (λ e. omega arith) (λ k. let (i, l, e) = list_over_of A.effects k in omega arith) (Memᴰ.cases_cons m)

-- ---- what one vertex takes: the states of its label that are still uncovered

module _ (A : Actions) (labels : List ℕ) (v : ℕ) (s : Support) where
  pub takes_left : (i : ℕ) → bit i (takes A labels v s).left ≡ (bit i s.left and fails (bit i (label_in labels v)))
  unfolding takes ◌and◌
  takes_left i =
      bit_without i s.left (common s.left (label_in labels v))
      ∙ ap (λ (b : Bool). bit i s.left and fails b) (bit_common i s.left (label_in labels v))
      ∙ once (bit i s.left) (bit i (label_in labels v))
    where
      once : (a b : Bool) → (a and fails (a and b)) ≡ (a and fails b)
      once true b = refl
      once false b = refl

  pub takes_needed : (i : ℕ) {q : ℕ} → q < A.props → bit i (label_in (takes A labels v s).needed q)
      ≡ (bit i (label_in s.needed q) or (bit q (needs_of A v) and (bit i s.left and bit i (label_in labels v))))
  unfolding takes label_in
  takes_needed i {q} h =
      let took = common s.left (label_in labels v) in
      ap (bit i) (get_d_list_over (λ q. union (label_in s.needed q) (keep (bit q (needs_of A v)) took)) h)
      ∙ bit_union i (label_in s.needed q) (keep (bit q (needs_of A v)) took)
      ∙ ap (λ (b : Bool). bit i (label_in s.needed q) or b)
      (bit_keep i (bit q (needs_of A v)) took ∙ ap (λ (b : Bool). bit q (needs_of A v) and b) (bit_common i s.left (label_in labels v)))

  pub takes_kept : (a : ℕ) → So (bit a s.marks) → So (bit a (takes A labels v s).marks)
  unfolding takes
  takes_kept a t = ⊎_elim
      (λ h. ap (bit a) (choose_held _ h) ∙ bit_union a s.marks (single (A.owner v)) ∙ or_left _ t)
      (λ f. ap (bit a) (choose_failed _ _ f) ∙ t)
      (holds_or (below v A.effects and fails (same (common s.left (label_in labels v)) 0)))

  -- the action of an effect that takes a state is marked
  pub takes_marked : (i : ℕ) → v < A.effects → So (bit i s.left) → So (bit i (label_in labels v)) → So (bit (A.owner v) (takes A labels v s).marks)
  unfolding takes
  takes_marked i h l t =
      ap (bit (A.owner v)) (choose_held _ (and_of (below_of h) (fails_of (λ e.
      no_bit_zero i (ap (bit i) (sym (same_at e)) ∙ bit_common i s.left (label_in labels v) ∙ and_of l t)))))
      ∙ bit_union (A.owner v) s.marks (single (A.owner v)) ∙ or_right _ (single_has (A.owner v) refl)

  pub takes_bounded : Sound A → s.marks < 2 ^ A.count → (takes A labels v s).marks < 2 ^ A.count
  unfolding takes
  takes_bounded k h =
      choose_lt (λ c. union_lt A.count h (single_lt (k.owner v (below_at (and_left _ c))))) h

-- ---- what a search does to the states left, the marks and the needs

-- p is supported for the state i: by a vertex that adds p and has i in its label, whose action is marked if it is an effect,
-- and of whose needs each is needed for i
pub record Supported (A : Actions) (labels : List ℕ) (p i marks : ℕ) (needed : List ℕ) : Type 0 where
  pub vertex : ℕ
  pub adds : So (bit p (adds_of A vertex))
  pub labelled : So (bit i (label_in labels vertex))
  pub marked : vertex < A.effects → So (bit (A.owner vertex) marks)
  pub needs : (q : ℕ) → q < A.props → So (bit q (needs_of A vertex)) → So (bit i (label_in needed q))

-- a vertex that has i in its label needs q
pub record Passed (A : Actions) (labels : List ℕ) (i q : ℕ) : Type 0 where
  pub vertex : ℕ
  pub known : vertex < A.effects + A.props
  pub needs : So (bit q (needs_of A vertex))
  pub labelled : So (bit i (label_in labels vertex))

-- marks and needs only grow, and what is needed anew is so by a vertex that has it in its label, for a state of `from`
pub record Grown (A : Actions) (labels : List ℕ) (from : ℕ → Type 0) (marks : ℕ) (needed : List ℕ) (marks' : ℕ) (needed' : List ℕ) : Type 0 where
  pub marked : (a : ℕ) → So (bit a marks) → So (bit a marks')
  pub kept : (i q : ℕ) → q < A.props → So (bit i (label_in needed q)) → So (bit i (label_in needed' q))
  pub source : (i q : ℕ) → q < A.props → So (bit i (label_in needed' q)) → So (bit i (label_in needed q)) ⊎ (from i × Passed A labels i q)
  pub bounded : Sound A → marks < 2 ^ A.count → marks' < 2 ^ A.count

-- a search for p: states are covered one after the other, and those that are, are supported
pub record Searched (A : Actions) (labels : List ℕ) (p : ℕ) (s s' : Support) : Type 0 where
  pub fewer : (i : ℕ) → So (bit i s'.left) → So (bit i s.left)
  pub grown : Grown A labels (λ i. So (bit i s.left)) s.marks s.needed s'.marks s'.needed
  pub gone : (i : ℕ) → So (bit i s.left) → (So (bit i s'.left) → ⊥) → Supported A labels p i s'.marks s'.needed

module _ {A : Actions} {labels : List ℕ} where
  pub grown_none : {from : ℕ → Type 0} {marks : ℕ} {needed : List ℕ} → Grown A labels from marks needed marks needed
  grown_none = record {
    marked = λ a t. t;
    kept = λ i q h t. t;
    source = λ i q h t. inl t;
    bounded = λ k h. h;
  }

  -- one growth, then another
  pub grown_both : {from from' from'' : ℕ → Type 0} {m m' m'' : ℕ} {n n' n'' : List ℕ} → ((i : ℕ) → from' i → from i) → ((i : ℕ) → from'' i → from i)
      → Grown A labels from' m n m' n' → Grown A labels from'' m' n' m'' n'' → Grown A labels from m n m'' n''
  grown_both d e g k = record {
    marked = λ a t. k.marked a (g.marked a t);
    kept = λ i q h t. k.kept i q h (g.kept i q h t);
    source = λ i q h t. ⊎_elim
        (λ u. ⊎_elim inl (λ w. inr (d i w.0, w.1)) (g.source i q h u))
        (λ u. inr (e i u.0, u.1)) (k.source i q h t);
    bounded = λ o h. k.bounded o (g.bounded o h);
  }

  -- what is supported stays so
  pub supported_kept : {from : ℕ → Type 0} {m m' : ℕ} {n n' : List ℕ} {p i : ℕ} → Grown A labels from m n m' n'
      → Supported A labels p i m n → Supported A labels p i m' n'
  supported_kept {i = i} g s = record {
    vertex = s.vertex;
    adds = s.adds;
    labelled = s.labelled;
    marked = λ h. g.marked (A.owner s.vertex) (s.marked h);
    needs = λ q h t. g.kept i q h (s.needs q h t);
  }

  searched_none : {p : ℕ} {s : Support} → Searched A labels p s s
  searched_none = record {
    fewer = λ i t. t;
    grown = grown_none;
    gone = λ i t f. absurd (f t);
  }

  searched_both : {p : ℕ} {s s' s'' : Support} → Searched A labels p s s' → Searched A labels p s' s'' → Searched A labels p s s''
  searched_both {s' = s'} f g = record {
    fewer = λ i t. f.fewer i (g.fewer i t);
    grown = grown_both (λ i t. t) f.fewer f.grown g.grown;
    gone = λ i t h.
        ⊎_elim (λ u. g.gone i u h) (λ n. supported_kept g.grown (f.gone i t (fails_at n))) (holds_or (bit i s'.left));
  }

  takes_searched : {p v : ℕ} {s : Support} → v < A.effects + A.props → So (bit p (adds_of A v)) → Searched A labels p s (takes A labels v s)
  takes_searched {p} {v} {s} l e = record {
    fewer = λ i t. and_left _ (sym (takes_left A labels v s i) ∙ t);
    grown = record {
      marked = takes_kept A labels v s;
      kept = λ i q h t. takes_needed A labels v s i h ∙ or_left _ t;
      source = λ i q h t. ⊎_elim inl
          (λ u. inr (and_left _ (and_right _ u), record { vertex = v; known = l; needs = and_left _ u; labelled = and_right _ (and_right _ u) }))
          (or_at (sym (takes_needed A labels v s i h) ∙ t));
      bounded = takes_bounded A labels v s;
    };
    gone = λ i t f. taken i t (⊎_elim (λ u. u) (λ n. absurd (f (takes_left A labels v s i ∙ and_of t n))) (holds_or (bit i (label_in labels v))));
  }
    where
      taken : (i : ℕ) → So (bit i s.left) → So (bit i (label_in labels v)) → Supported A labels p i (takes A labels v s).marks (takes A labels v s).needed
      taken i t u = record {
        vertex = v;
        adds = e;
        labelled = u;
        marked = λ h. takes_marked A labels v s i h t u;
        needs = λ q h n. takes_needed A labels v s i h ∙ or_right _ (and_of n (and_of t u));
      }

-- ---- the search, candidate by candidate

module _ (A : Actions) (labels : List ℕ) (p : ℕ) where
  -- once no state is uncovered, nothing changes any more
  pub support_ended : (vs : List ℕ) {s : Support} → s.left ≡ 0 → support A labels p vs s ≡ s
  unfolding support
  support_ended [] e = refl
  support_ended (v ∷ vs) e = choose_held _ (same_of e)

  pub support_takes : (v : ℕ) (vs : List ℕ) (s : Support) → So (fails (same s.left 0)) → So (bit p (adds_of A v))
      → support A labels p (v ∷ vs) s ≡ support A labels p vs (takes A labels v s)
  unfolding support
  support_takes v vs s f t = choose_failed _ _ f ∙ ap (support A labels p vs) (choose_held _ t)

  pub support_skips : (v : ℕ) (vs : List ℕ) (s : Support) → So (fails (bit p (adds_of A v))) → support A labels p (v ∷ vs) s ≡ support A labels p vs s
  unfolding support
  support_skips v vs s f = ⊎_elim
      (λ h. support_ended (v ∷ vs) (same_at h) ∙ sym (support_ended vs (same_at h)))
      (λ g. choose_failed _ _ g ∙ ap (support A labels p vs) (choose_failed _ _ f))
      (holds_or (same s.left 0))

  -- so a search ends at once, takes by its first candidate, or passes it over
  by_step : (P : Support → Type 0) (v : ℕ) (vs : List ℕ) {s : Support} → (s.left ≡ 0 → P s)
      → (So (bit p (adds_of A v)) → P (support A labels p vs (takes A labels v s)))
      → (So (fails (bit p (adds_of A v))) → P (support A labels p vs s)) → P (support A labels p (v ∷ vs) s)
  by_step P v vs {s} ended taken skips = ⊎_elim
      (λ h. subst P (sym (support_ended (v ∷ vs) (same_at h))) (ended (same_at h)))
      (λ g. ⊎_elim (λ t. subst P (sym (support_takes v vs s g t)) (taken t)) (λ f. subst P (sym (support_skips v vs s f)) (skips f))
      (holds_or (bit p (adds_of A v))))
      (holds_or (same s.left 0))

  pub support_searched : (vs : List ℕ) {s : Support} → ((v : ℕ) → Memᴰ v vs → v < A.effects + A.props)
      → Searched A labels p s (support A labels p vs s)
  unfolding support
  support_searched [] h = searched_none
  support_searched (v ∷ vs) {s} h =
      by_step (Searched A labels p s) v vs (λ e. searched_none)
      (λ t. searched_both (takes_searched (h v (Memᴰ.head refl)) t)
      (support_searched vs (λ w m. h w (Memᴰ.tail m))))
      (λ f. support_searched vs (λ w m. h w (Memᴰ.tail m)))

  -- a state that a candidate covers is not left
  pub support_covers : (vs : List ℕ) (s : Support) {v : ℕ} (i : ℕ) → ((w : ℕ) → Memᴰ w vs → w < A.effects + A.props)
      → Memᴰ v vs → So (bit p (adds_of A v)) → So (bit i (label_in labels v)) → So (bit i (support A labels p vs s).left) → ⊥
  support_covers [] s i h m a l t = Memᴰ.not-nil m
  support_covers (w ∷ vs) s i h m a l t = by_step (λ (r : Support). So (bit i r.left) → ⊥) w vs
      (λ e t. no_bit_zero i (ap (bit i) (sym e) ∙ t))
      (λ b t. ⊎_elim
      (λ e. fails_at (and_right _ (sym (takes_left A labels w s i) ∙ (support_searched vs later).fewer i t))
      (subst (λ (x : ℕ). So (bit i (label_in labels x))) e l))
      (λ k. support_covers vs (takes A labels w s) i later k a l t) (Memᴰ.cases_cons m))
      (λ f t. ⊎_elim
      (λ e. fails_at f (subst (λ (x : ℕ). So (bit p (adds_of A x))) e a))
      (λ k. support_covers vs s i later k a l t) (Memᴰ.cases_cons m)) t
    where
      later : (x : ℕ) → Memᴰ x vs → x < A.effects + A.props
      later x k = h x (Memᴰ.tail k)
