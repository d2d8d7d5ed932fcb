-- The vertices that the effects of a problem's actions make: what each needs, adds and deletes, and which of them interfere.
-- Assumes nothing.
use mathlib.Core.Path.{◌≡◌, sym, ap, subst, ◌∙◌}
use mathlib.Core.Bool.{So}
use mathlib.Core.Logic.{⊎_elim}
use Prim.Native.Nat.{ℕ, ◌+◌, ◌^◌, ◌<◌}
use native.Mathlib.Omega.{arith}
use Rattle.rules.specs.Test.{◌or◌, below, choose}
use Rattle.rules.specs.Word.{bit, union, single, within}
use Rattle.rules.specs.Domain.{Actions, Sound, condition, persistence, needs_of, adds_of, deletes_of, siblings, clobbers, interfere_of, domain}
use Rattle.rules.proofs.Tests.{choose_held, choose_failed, and_of, and_left, and_right, or_left, or_right, or_at, fails_of, fails_at, same_of, same_at}
use Rattle.rules.proofs.Tests.{below_of, below_at}
use Rattle.rules.proofs.Words.{bit_union, no_bit_zero, single_only, width, union_lt, within_at, meets_of, meets_no}
use Rattle.rules.proofs.Layers.{ordered, paired_at}
use Rattle.rules.proofs.Order.{Apart, Keeps}

module _ (A : Actions) where
  -- an effect is the vertex of its number, a persistence comes behind all effects
  effect_vertex {ℓ} : {X : Type ℓ} {e : ℕ} {x : X} (y : X) → e < A.effects → choose (below e A.effects) x y ≡ x
  effect_vertex y h = choose_held _ (below_of h)

  persistence_vertex {ℓ} : {X : Type ℓ} (p : ℕ) (x : X) {y : X} → choose (below (A.effects + p) A.effects) x y ≡ y
  persistence_vertex p x = choose_failed _ _ (fails_of (λ t. omega (arith, below_at t)))

  pub persistence_below : {p : ℕ} → p < A.props → persistence A p < (domain A).vertices
  unfolding persistence domain
  persistence_below h = omega arith

  pub effect_below : {e : ℕ} → e < A.effects → e < (domain A).vertices
  unfolding domain
  effect_below h = omega arith

  pub needs_effect : {e : ℕ} → e < A.effects → needs_of A e ≡ condition A e
  unfolding needs_of
  needs_effect h = effect_vertex _ h

  pub adds_effect : {e : ℕ} → e < A.effects → adds_of A e ≡ A.add e
  unfolding adds_of
  adds_effect h = effect_vertex _ h

  pub deletes_effect : {e : ℕ} → e < A.effects → deletes_of A e ≡ A.del e
  unfolding deletes_of
  deletes_effect h = effect_vertex _ h

  -- what an effect needs is a set of the propositions
  pub condition_lt : Sound A → {e : ℕ} → e < A.effects → condition A e < 2 ^ A.props
  unfolding condition
  condition_lt s {e} h = union_lt A.props (s.pre (A.owner e) (s.owner e h)) (s.when e h)

  -- what has precondition and antecedent has every need of the effect
  pub condition_at : (e x q : ℕ) → So (within (A.pre (A.owner e)) x) → So (within (A.when e) x) → So (bit q (condition A e)) → So (bit q x)
  unfolding condition
  condition_at e x q s t n =
      ⊎_elim (within_at (A.pre (A.owner e)) x q s) (within_at (A.when e) x q t) (or_at (sym (bit_union q (A.pre (A.owner e)) (A.when e)) ∙ n))

  pub needs_persistence : (p : ℕ) → needs_of A (persistence A p) ≡ single p
  unfolding needs_of persistence
  needs_persistence p = persistence_vertex p _ ∙ ap (λ (k : ℕ). single k) (omega arith)

  pub adds_persistence : (p : ℕ) → adds_of A (persistence A p) ≡ single p
  unfolding adds_of persistence
  adds_persistence p = persistence_vertex p _ ∙ ap (λ (k : ℕ). single k) (omega arith)

  pub deletes_persistence : (p : ℕ) → deletes_of A (persistence A p) ≡ 0
  unfolding deletes_of persistence
  deletes_persistence p = persistence_vertex p _

  -- ---- interference

  -- v clobbers w exactly when it 'deletes something the other needs or adds'
  pub clobbers_of : (v w p : ℕ) → So (bit p (deletes_of A v)) → So (bit p (needs_of A w) or bit p (adds_of A w)) → So (clobbers A v w)
  unfolding clobbers
  clobbers_of v w p d t = meets_of (deletes_of A v) (union (needs_of A w) (adds_of A w)) p d (bit_union p (needs_of A w) (adds_of A w) ∙ t)

  pub clobbers_no : (v w : ℕ) → ((p : ℕ) → So (bit p (deletes_of A v)) → So (bit p (needs_of A w) or bit p (adds_of A w)) → ⊥) → So (clobbers A v w) → ⊥
  unfolding clobbers
  clobbers_no v w f t =
      meets_no (union (needs_of A w) (adds_of A w)) width
      (λ p h d e. f p d (sym (bit_union p (needs_of A w) (adds_of A w)) ∙ e)) t

  -- a vertex interferes with what it clobbers, but for the effects of its own action
  pub interfere_of_lem : (v w : ℕ) → (So (siblings A v w) → ⊥) → So (clobbers A v w) → So (interfere_of A v w)
  unfolding interfere_of
  interfere_of_lem v w f c = and_of (fails_of f) (or_left _ c)

  -- siblings and interference go both ways
  pub siblings_turn : (v w : ℕ) → So (siblings A v w) → So (siblings A w v)
  unfolding siblings
  siblings_turn v w t = let u = and_right _ t in and_of (and_left _ u) (and_of (and_left _ t) (same_of (sym (same_at (and_right _ u)))))

  pub interfere_turn : (v w : ℕ) → So (interfere_of A v w) → So (interfere_of A w v)
  unfolding interfere_of
  interfere_turn v w t =
      and_of (fails_of (λ s. fails_at (and_left _ t) (siblings_turn w v s))) (⊎_elim (λ c. or_right _ c) (λ c. or_left _ c) (or_at (and_right _ t)))

  pub interfere_apart : (v w : ℕ) → (So (interfere_of A v w) → ⊥) → Apart (domain A) v w
  unfolding domain
  interfere_apart v w f c = ordered (λ a b. So (interfere_of A a b) → ⊥) f (λ t. f (interfere_turn w v t)) (paired_at _ v w c)

  -- two vertices of which neither clobbers the other
  pub clobbers_apart : (v w : ℕ) → (So (clobbers A v w) → ⊥) → (So (clobbers A w v) → ⊥) → Apart (domain A) v w
  unfolding interfere_of
  clobbers_apart v w f g = interfere_apart v w (λ t. ⊎_elim f g (or_at (and_right _ t)))

  -- 'effects of one action do not interfere'
  pub siblings_of : {e f : ℕ} → e < A.effects → f < A.effects → A.owner e ≡ A.owner f → So (siblings A e f)
  unfolding siblings
  siblings_of h k o = and_of (below_of h) (and_of (below_of k) (same_of o))

  pub siblings_apart : (v w : ℕ) → So (siblings A v w) → Apart (domain A) v w
  unfolding interfere_of
  siblings_apart v w s = interfere_apart v w (λ t. fails_at (and_left _ t) s)

  -- a persistence has no siblings
  pub persistence_alone : (v p : ℕ) → So (siblings A v (persistence A p)) → ⊥
  unfolding siblings persistence
  persistence_alone v p s = omega (arith, below_at (and_left _ (and_right _ s)))

  -- a persistence clobbers nothing
  pub persistence_clobbers : (p w : ℕ) → So (clobbers A (persistence A p) w) → ⊥
  persistence_clobbers p w = clobbers_no (persistence A p) w (λ q d e. no_bit_zero q (ap (bit q) (sym (deletes_persistence p)) ∙ d))

  -- and only what deletes its proposition clobbers it
  pub clobbers_persistence : (v p : ℕ) → (So (bit p (deletes_of A v)) → ⊥) → So (clobbers A v (persistence A p)) → ⊥
  clobbers_persistence v p f = clobbers_no v (persistence A p) (λ q d e. f (subst (λ (x : ℕ). So (bit x (deletes_of A v))) (its q e) d))
    where
      its : (q : ℕ) → So (bit q (needs_of A (persistence A p)) or bit q (adds_of A (persistence A p))) → q ≡ p
      its q e = ⊎_elim (single_only (needs_persistence p)) (single_only (adds_persistence p)) (or_at e)

  pub keeps : Keeps (domain A)
  unfolding domain
  keeps = record {
    persistence = persistence A;
    below = (λ p. persistence_below);
    needs = λ p h. needs_persistence p;
    adds = λ p h. adds_persistence p;
    apart = λ p q h l. clobbers_apart _ _ (persistence_clobbers p _) (persistence_clobbers q _);
  }
