-- Lists of actions that run, and the own graphs of the states they run from: a list is at least as long as the level of what holds at its end.
-- Assumes nothing.
use mathlib.Core.Path.{◌≡◌, refl, sym, ap, subst, ◌∙◌}
use mathlib.Core.Bool.{Bool, So}
use mathlib.Core.List.{List, [], ◌∷◌}
use mathlib.Core.Logic.{◌⊎◌, inl, inr, ⊎_elim}
use Prim.Native.Nat.{ℕ, suc, ◌≤◌, ◌<◌}
use native.Mathlib.Omega.{arith}
use lib.ListN.{length, get_or}
use Rattle.rules.specs.Test.{◌and◌, ◌or◌, ◌implies◌, fails}
use Rattle.rules.specs.Word.{bit, without, within}
use Rattle.rules.specs.Over.{all_below, any_below, first_below}
use Rattle.rules.specs.Domain.{Actions, condition, persistence, needs_of, adds_of, clobbers, domain}
use Rattle.rules.specs.Own.{admits, own_start, own_from, own_props}
use Rattle.rules.specs.Run.{ready, fires, fired, after, stepped, ended, run_from, run_of}
use Rattle.rules.proofs.Tests.{choose_held, choose_failed, and_of, and_left, and_right, or_at, implies_of, implies_at, fails_at, holds_or, same_at}
use Rattle.rules.proofs.Words.{bit_union, bit_without, single_has, single_only, within_at}
use Rattle.rules.proofs.Overs.{all_of_lem, all_at, any_of, any_at, bit_keep, bit_join_over}
use Rattle.rules.proofs.Firsts.{first_to}
use Rattle.rules.proofs.Layers.{get_d_list_over}
use Rattle.rules.proofs.Order.{Apart, Admits, admits_of, start_admits, Explains, explained}
use Rattle.rules.proofs.Domains.{persistence_below, effect_below, needs_effect, adds_effect, deletes_effect, condition_at, needs_persistence}
use Rattle.rules.proofs.Domains.{adds_persistence, clobbers_apart, siblings_of, siblings_apart, persistence_clobbers, clobbers_persistence}

-- ---- a step is explained: by the fired effects, and by the persistences of what they leave as it was

module _ (A : Actions) (a x p : ℕ) (f : ℕ → ℕ) where
  fired_bits : bit p (fired A a x f) ≡ any_below A.effects (λ e. fires A a x e and bit p (f e))
  unfolding fired
  fired_bits = bit_join_over p _ (λ e l. bit_keep p (fires A a x e) (f e))

  pub fired_at : So (bit p (fired A a x f)) → (e : ℕ) × (e < A.effects) × So (fires A a x e) × So (bit p (f e))
  fired_at t = let (e, l, u) = any_at (sym fired_bits ∙ t) in (e, l, and_left _ u, and_right _ u)

  pub fired_of : {e : ℕ} → e < A.effects → So (fires A a x e) → So (bit p (f e)) → So (bit p (fired A a x f))
  fired_of l t u = fired_bits ∙ any_of _ l (and_of t u)

pub bit_after : (A : Actions) (a x p : ℕ) → bit p (after A a x) ≡ ((bit p x and fails (bit p (fired A a x A.del))) or bit p (fired A a x A.add))
unfolding after
bit_after A a x p =
    bit_union p (without x (fired A a x A.del)) (fired A a x A.add)
    ∙ ap (λ (b : Bool). b or bit p (fired A a x A.add)) (bit_without p x (fired A a x A.del))

-- what is there after the step, though no fired effect adds it, was there before and none deletes it
pub after_kept : (A : Actions) (a x p : ℕ) → So (bit p (after A a x)) → So (fails (bit p (fired A a x A.add)))
    → So (bit p x) × So (fails (bit p (fired A a x A.del)))
after_kept A a x p t f =
    ⊎_elim (λ u. (and_left _ u, and_right _ u)) (λ u. absurd (fails_at f u)) (or_at (sym (bit_after A a x p) ∙ t))

-- no fired effect adds p and v is its persistence, or v is a fired effect that adds p
abbrev Picked : Actions → ℕ → ℕ → ℕ → ℕ → Type 0
Picked A a x p v =
    (So (fails (bit p (fired A a x A.add))) × (v ≡ persistence A p)) ⊎ ((v < A.effects) × So (fires A a x v) × So (bit p (A.add v)))

module _ (A : Actions) (a x : ℕ) (can : So (within (A.pre a) x)) where
  picked : (p : ℕ) → (v : ℕ) × Picked A a x p v
  picked p = ⊎_elim (λ h. let (e, l, k, b) = fired_at A a x p A.add h in (e, inr (l, k, b))) (λ h. (persistence A p, inl (h, refl)))
      (holds_or (bit p (fired A a x A.add)))

  picked_below : {p v : ℕ} → p < A.props → Picked A a x p v → v < (domain A).vertices
  picked_below h = ⊎_elim (λ (c, e). rw e (persistence_below A h)) (λ (l, k, b). effect_below A l)

  picked_adds : (p : ℕ) {v : ℕ} → Picked A a x p v → So (bit p (adds_of A v))
  picked_adds p = ⊎_elim (λ (c, e). rw e (single_has p (adds_persistence A p))) (λ (l, k, b). rw (adds_effect A l) b)

  -- a fired effect is one of the action, and all it needs was there
  fires_owner : (v : ℕ) → So (fires A a x v) → A.owner v ≡ a
  unfolding fires
  fires_owner v t = same_at (and_left _ t)

  fires_needs : (v q : ℕ) → So (fires A a x v) → So (bit q (condition A v)) → So (bit q x)
  unfolding fires
  fires_needs v q t = condition_at A v x q (rw (fires_owner v t) can) (and_right _ t)

  picked_needs : (p q : ℕ) {v : ℕ} → So (bit p (after A a x)) → So (bit q (needs_of A v)) → Picked A a x p v → So (bit q x)
  picked_needs p q {v} t n =
      ⊎_elim (λ (c, e). rw (single_only (ap (needs_of A) e ∙ needs_persistence A p) n) (after_kept A a x p t c).0)
      (λ (l, k, b). fires_needs v q k (rw (needs_effect A l) at n))

  -- a fired effect leaves alone what is there after the step and no fired effect adds
  stays : (p v : ℕ) → So (bit p (after A a x)) → So (fails (bit p (fired A a x A.add))) → v < A.effects → So (fires A a x v)
      → So (clobbers A v (persistence A p)) → ⊥
  stays p v t c l k =
      clobbers_persistence A v p (λ d. fails_at (after_kept A a x p t c).1 (fired_of A a x p A.del l k (rw (deletes_effect A l) at d)))

  picked_apart : (p q : ℕ) {v w : ℕ} → So (bit p (after A a x)) → So (bit q (after A a x)) → Picked A a x p v → Picked A a x q w → Apart (domain A) v w
  picked_apart p q {v} {w} s t k l c =
      ⊎_elim (λ (i, e).
      ⊎_elim (λ (j, f). clobbers_apart A (persistence A p) (persistence A q) (persistence_clobbers A p _) (persistence_clobbers A q _) (rw (e, f) at c))
      (λ (h, j, f). clobbers_apart A (persistence A p) w (persistence_clobbers A p _) (stays p w s i h j) (rw e at c)) l)
      (λ (g, i, e).
      ⊎_elim (λ (j, f). clobbers_apart A v (persistence A q) (stays q v t j g i) (persistence_clobbers A q _) (rw f at c))
      (λ (h, j, f). siblings_apart A v w (siblings_of A g h (fires_owner v i ∙ sym (fires_owner w j))) c) l) k

  pub step_explains : Explains (domain A) x (after A a x)
  unfolding domain
  step_explains = record {
    pick = λ p. (picked p).0;
    below = λ p h t. picked_below h (picked p).1;
    adds = λ p h t. picked_adds p (picked p).1;
    needs = λ p q h t l n. picked_needs p q t n (picked p).1;
    apart = λ p q h l s t. picked_apart p q s t (picked p).1 (picked q).1;
  }

-- ---- a run

module _ (A : Actions) (n set : ℕ) where
  -- one state after one step
  pub stepped_inside : (a : ℕ) (xs : List ℕ) {s : ℕ} → s < n → So (bit s set) → get_or (stepped A n set a xs) s 0 ≡ after A a (get_or xs s 0)
  unfolding stepped
  stepped_inside a xs h t = get_d_list_over _ h ∙ choose_held _ t

  -- what holds at the start, and from each step that is ready to the next, holds where the run ends
  pub run_ind : (P : ℕ → List ℕ → Type 0) (i : ℕ) {xs : List ℕ} (list : List ℕ) {ends : List ℕ}
      → ((t : ℕ) (ys : List ℕ) → t < length list → So (ready A n set (get_or list t 0) ys) → P t ys → P (suc t) (stepped A n set (get_or list t 0) ys))
      → P 0 xs → run_from A n set i xs list ≡ ended ends → P (length list) ends
  unfolding run_from
  run_ind P i {xs} [] {ends} step here e = let q : xs ≡ ends = cc in subst (P 0) q here
  run_ind P i {xs} (a ∷ list) step here e =
      ⊎_elim
      (λ r.
      run_ind (λ t. P (suc t)) (suc i) list (λ t ys l. step (suc t) ys (omega arith)) (step 0 xs (omega arith) r here)
      (sym (choose_held _ r) ∙ e))
      (λ f. let z : ◌≡◌ {A = ℕ} 0 1 = cc (choose_failed _ _ f, e) in absurd (omega arith))
      (holds_or (ready A n set a xs))

module _ (A : Actions) {n : ℕ} (start : ℕ → ℕ) (set : ℕ) (list : List ℕ) {ends : List ℕ} where
  module _ (ran : run_of A n start set list ≡ ended ends) where
    -- where the list ends, the own graph of a state of S admits what the state has become, as many layers on as the list is long
    pub run_admits : {s : ℕ} → s < n → So (bit s set) → Admits A.props (own_props (domain A) (start s) (length list)) (get_or ends s 0)
    unfolding run_of own_props own_from domain ready
    run_admits {s} h t =
        run_ind A n set (λ i xs. Admits A.props (own_from (domain A) (own_start (start s)) i) (get_or xs s 0)) 0 list
        (λ i ys l r k. rw (stepped_inside A n set (get_or list i 0) ys h t)
        (explained (domain A)
        (step_explains A (get_or list i 0) (get_or ys s 0) (implies_at (all_at _ r h) t)) k))
        (rw (get_d_list_over start h) (start_admits (start s))) ran

    -- so it admits a goal that holds there
    pub goal_admitted : {s : ℕ} → s < n → So (bit s set) → (goal : ℕ) → So (within goal (get_or ends s 0))
        → So (admits A.props (own_props (domain A) (start s) (length list)) goal)
    goal_admitted {s} h t goal w =
        admits_of _ (λ p q hp hq a b. run_admits h t p q hp hq (within_at goal (get_or ends s 0) p w a) (within_at goal (get_or ends s 0) q w b))

    -- and the list is at least as long as the level of the states of S, where the goal holds at the end of each, whatever the depth
    pub set_bound : (goal : ℕ) → ((s : ℕ) → s < n → So (bit s set) → So (within goal (get_or ends s 0)))
        → (k : ℕ) → first_below (suc k) (λ t. all_below n (λ s. bit s set implies admits A.props (own_props (domain A) (start s) t) goal)) ≤ length list
    set_bound goal w k = first_to (suc k) _ (all_of_lem (λ s h. implies_of (λ t. goal_admitted h t goal (w s h t))))
