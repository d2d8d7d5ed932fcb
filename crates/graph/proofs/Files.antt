-- The sets of a file: when they pass, and what is known of sets that have passed.
-- Assumes nothing.
use mathlib.Core.Path.{◌≡◌, refl, sym, ap, subst, ◌∙◌}
use mathlib.Core.Bool.{So}
use mathlib.Core.Logic.{⊎_elim}
use mathlib.Core.List.{List}
use Prim.Native.Nat.{ℕ, zero, suc, ◌+◌, ◌*◌, ◌^◌, ◌≤◌, ◌<◌}
use native.Mathlib.Nat.{zero-add, not-suc-le-zero, le_of_eq, le_trans, le_refl, add-le-add, add-le-add_iff_right, lt_of_le_of_lt}
use native.Mathlib.Omega.{arith}
use lib.Bits.{bit_or, or_add_and, and_le_r, or_comm}
use lib.Pow.{pow_pos}
use Rattle.rules.specs.Test.{fails}
use Rattle.rules.specs.Word.{union}
use Rattle.rules.specs.Over.{join_over}
use Rattle.rules.proofs.Overs.{below_suc}
use Rattle.rules.proofs.Tests.{choose_held, choose_failed, fails_of, fails_at, holds_or, below_of, below_at}
use Rattle.graph.specs.Verdict.{Verdict, accepted, refused}
use Rattle.graph.specs.Format.{head_bytes, long_head, set_bytes, set_at, plain, when_at, sets_at, states_at, actions_of, start_of}
use Rattle.graph.specs.File.{Ranged, sets_from, effect_sets, action_sets, sets_rule}
use Rattle.graph.specs.declared.format.Counts.{Counts}
use Rattle.graph.proofs.Verdicts.{then_refused, then_accepted, passed_if, passed_then}
use Rattle.graph.proofs.Places.{pre_plain, sets_plain, states_plain, pre_long, sets_long}

-- ---- joined sets

le_or_l : (a b : ℕ) → a ≤ bit_or a b
le_or_l a b = (add-le-add_iff_right b).0 (le_trans (le_of_eq (sym (or_add_and a b))) (add-le-add (le_refl (bit_or a b)) (and_le_r a b)))

le_or_r : (a b : ℕ) → b ≤ bit_or a b
le_or_r a b = subst (λ (x : ℕ). b ≤ x) (or_comm b a) (le_or_l b a)

-- each of the words joined is at most what they join to
join_at : (n : ℕ) (f : ℕ → ℕ) (i : ℕ) → i < n → f i ≤ join_over n f
unfolding join_over
join_at zero f i h = absurd (not-suc-le-zero h)
join_at (suc n) f i h =
    below_suc (le_or_r (join_over n f) (f n)) (λ j l. le_trans (join_at n f j l) (le_or_l (join_over n f) (f n))) h

-- ---- sets that lie one behind the other

-- so many sets from `at` on have propositions below `props` only
abbrev pub Fit : List ℕ → ℕ → ℕ → ℕ → Type 0
Fit file props n at = (i : ℕ) → i < n → set_at file (at + set_bytes * i) < 2 ^ props

module _ (file : List ℕ) (props : ℕ) where
  pub fit_pass : (n at : ℕ) → Fit file props n at → sets_from file props n at ≡ accepted tt
  unfolding sets_from
  fit_pass zero at each = refl
  fit_pass (suc n) at each =
      choose_held _ (below_of (subst (λ (x : ℕ). set_at file x < 2 ^ props) (omega arith) (each 0 (omega arith))))
      ∙ fit_pass n (at + set_bytes) (λ i h. subst (λ (x : ℕ). set_at file x < 2 ^ props) (omega arith) (each (suc i) (omega arith)))

  pub pass_fit : (n at : ℕ) → sets_from file props n at ≡ accepted tt → Fit file props n at
  unfolding sets_from
  pass_fit zero at e = λ i h. absurd (not-suc-le-zero h)
  pass_fit (suc n) at e =
      let (t, r) = passed_if _ _ _ _ _ e in
      each (below_at t) (pass_fit n (at + set_bytes) r)
    where
      each : set_at file at < 2 ^ props → Fit file props n (at + set_bytes) → Fit file props (suc n) at
      each here more zero h = subst (λ (x : ℕ). set_at file x < 2 ^ props) (omega arith) here
      each here more (suc i) h = subst (λ (x : ℕ). set_at file x < 2 ^ props) (omega arith) (more i (omega arith))

  pub joined_fit : (n at : ℕ) → join_over n (λ i. set_at file (at + set_bytes * i)) < 2 ^ props → Fit file props n at
  joined_fit n at h i l = lt_of_le_of_lt (join_at n (λ i. set_at file (at + set_bytes * i)) i l) h

  -- what is left after i of so many sets, and the verdict is theirs
  pub record Left (v : Verdict (Unit {0})) (count at i : ℕ) : Type 0 where
    pub left : ℕ
    pub are : i + left ≡ count
    pub is : v ≡ sets_from file props left (at + set_bytes * i)

  pub left_all : (count at : ℕ) → Left (sets_from file props count at) count at 0
  left_all count at = record { left = count; are = omega arith; is = ap (sets_from file props count) (omega arith) }

  module _ {v : Verdict (Unit {0})} {count at i : ℕ} where
    pub left_bad : Left v count at i → i < count → 2 ^ props ≤ set_at file (at + set_bytes * i) → refused 5 (at + set_bytes * i) ≡ v
    unfolding sets_from
    left_bad l h w = go l.left l.are l.is
      where
        go : (n : ℕ) → i + n ≡ count → v ≡ sets_from file props n (at + set_bytes * i) → refused 5 (at + set_bytes * i) ≡ v
        go zero e is = absurd (omega arith)
        go (suc n) e is = sym (is ∙ choose_failed _ _ (fails_of (λ t. omega (arith, below_at t))))

    pub left_next : Left v count at i → i < count → set_at file (at + set_bytes * i) < 2 ^ props → Left v count at (i + 1)
    unfolding sets_from
    left_next l h w = go l.left l.are l.is
      where
        go : (n : ℕ) → i + n ≡ count → v ≡ sets_from file props n (at + set_bytes * i) → Left v count at (i + 1)
        go zero e is = absurd (omega arith)
        go (suc n) e is = record { left = n; are = omega arith; is = is ∙ choose_held _ (below_of w) ∙ ap (sets_from file props n) (omega arith) }

    pub left_none : Left v count at i → count ≤ i → accepted tt ≡ v
    unfolding sets_from
    left_none l h = go l.left l.are l.is
      where
        go : (n : ℕ) → i + n ≡ count → v ≡ sets_from file props n (at + set_bytes * i) → accepted tt ≡ v
        go zero e is = sym is
        go (suc n) e is = absurd (omega arith)

-- ---- all sets of a file

pub record Fits (file : List ℕ) (c : Counts) : Type 0 where
  pub action : So (plain c) → Fit file c.props (3 * c.actions) head_bytes
  pub pre : So (fails (plain c)) → Fit file c.props c.actions long_head
  pub effect : So (fails (plain c)) → (e : ℕ) → e < c.effects → Fit file c.props 3 (when_at c e)
  pub state : Fit file c.props c.states (states_at c)

module _ (file : List ℕ) (c : Counts) where
  effects_pass : (left e : ℕ) → ((k : ℕ) → k < left → Fit file c.props 3 (when_at c (e + k))) → effect_sets file c left e ≡ accepted tt
  unfolding effect_sets
  effects_pass zero e each = refl
  effects_pass (suc left) e each =
      let e₀ : e + 0 ≡ e = omega arith in
      then_accepted _ _ tt (fit_pass file c.props 3 (when_at c e) (subst (λ (x : ℕ). Fit file c.props 3 (when_at c x)) e₀ (each 0 (omega arith))))
      ∙ effects_pass left (suc e) (λ k h. let q : e + suc k ≡ suc e + k = omega arith in
      subst (λ (x : ℕ). Fit file c.props 3 (when_at c x)) q (each (suc k) (omega arith)))

  effects_fit : (left e : ℕ) → effect_sets file c left e ≡ accepted tt → (k : ℕ) → k < left → Fit file c.props 3 (when_at c (e + k))
  unfolding effect_sets
  effects_fit zero e p = λ k h. absurd (not-suc-le-zero h)
  effects_fit (suc left) e p =
      let (u, here, more) = passed_then _ _ tt p in
      each (pass_fit file c.props 3 (when_at c e) here) (effects_fit left (suc e) more)
    where
      each : Fit file c.props 3 (when_at c e) → ((k : ℕ) → k < left → Fit file c.props 3 (when_at c (suc e + k)))
          → (k : ℕ) → k < suc left → Fit file c.props 3 (when_at c (e + k))
      each here more zero h = let q : e ≡ e + 0 = omega arith in subst (λ (x : ℕ). Fit file c.props 3 (when_at c x)) q here
      each here more (suc k) h = let q : suc e + k ≡ e + suc k = omega arith in subst (λ (x : ℕ). Fit file c.props 3 (when_at c x)) q (more k (omega arith))

  -- what is left after e effects
  pub record EffectsLeft (e : ℕ) : Type 0 where
    pub left : ℕ
    pub are : e + left ≡ c.effects
    pub is : effect_sets file c c.effects 0 ≡ effect_sets file c left e

  pub effects_all : EffectsLeft 0
  effects_all = record { left = c.effects; are = omega arith; is = refl }

  module _ {e : ℕ} where
    pub effects_bad : EffectsLeft e → e < c.effects → (n p : ℕ) → sets_from file c.props 3 (when_at c e) ≡ refused n p
        → refused n p ≡ effect_sets file c c.effects 0
    unfolding effect_sets
    effects_bad l h n p b = go l.left l.are l.is
      where
        go : (k : ℕ) → e + k ≡ c.effects → effect_sets file c c.effects 0 ≡ effect_sets file c k e → refused n p ≡ effect_sets file c c.effects 0
        go zero q is = absurd (omega arith)
        go (suc k) q is = sym (is ∙ then_refused _ _ n p b)

    pub effects_next : EffectsLeft e → e < c.effects → sets_from file c.props 3 (when_at c e) ≡ accepted tt → EffectsLeft (e + 1)
    unfolding effect_sets
    effects_next l h b = go l.left l.are l.is
      where
        go : (k : ℕ) → e + k ≡ c.effects → effect_sets file c c.effects 0 ≡ effect_sets file c k e → EffectsLeft (e + 1)
        go zero q is = absurd (omega arith)
        go (suc k) q is = record { left = k; are = omega arith; is = is ∙ then_accepted _ _ tt b ∙ ap (effect_sets file c k) (omega arith) }

    pub effects_none : EffectsLeft e → c.effects ≤ e → accepted tt ≡ effect_sets file c c.effects 0
    unfolding effect_sets
    effects_none l h = go l.left l.are l.is
      where
        go : (k : ℕ) → e + k ≡ c.effects → effect_sets file c c.effects 0 ≡ effect_sets file c k e → accepted tt ≡ effect_sets file c c.effects 0
        go zero q is = sym is
        go (suc k) q is = absurd (omega arith)

  pub fits_pass : Fits file c → sets_rule file c ≡ accepted tt
  unfolding sets_rule action_sets
  fits_pass f =
      then_accepted _ _ tt
      (⊎_elim
      (λ v. choose_held _ v ∙ fit_pass file c.props (3 * c.actions) head_bytes (f.action v))
      (λ v. choose_failed _ _ v ∙ then_accepted _ _ tt (fit_pass file c.props c.actions long_head (f.pre v))
      ∙ effects_pass c.effects 0 (λ k h. subst (λ (x : ℕ). Fit file c.props 3 (when_at c x)) (sym (zero-add k)) (f.effect v k h)))
      (holds_or (plain c)))
      ∙ fit_pass file c.props c.states (states_at c) f.state

  pub pass_fits : sets_rule file c ≡ accepted tt → Fits file c
  unfolding sets_rule action_sets
  pass_fits e =
      let (u, a, s) = passed_then _ _ tt e in
      let long : So (fails (plain c)) → (Fit file c.props c.actions long_head) × ((e : ℕ) → e < c.effects → Fit file c.props 3 (when_at c e)) =
      λ v. let (w, p, q) = passed_then _ _ tt (sym (choose_failed _ _ v) ∙ a) in (
        pass_fit file c.props c.actions long_head p,
        λ k h. subst (λ (x : ℕ). Fit file c.props 3 (when_at c x)) (zero-add k) (effects_fit c.effects 0 q k h),
      ) in
      record {
        action = λ v. pass_fit file c.props (3 * c.actions) head_bytes (sym (choose_held _ v) ∙ a);
        pre = λ v. (long v).0;
        effect = λ v. (long v).1;
        state = pass_fit file c.props c.states (states_at c) s;
      }

  abbrev Small : ℕ → Type 0
  Small x = x < 2 ^ c.props

  -- sets of which no four bytes are too large
  pub all_fit : ((at : ℕ) → set_at file at < 2 ^ c.props) → Fits file c
  all_fit h = record { action = λ v i l. h _; pre = λ v i l. h _; effect = λ v e l i k. h _; state = λ i l. h _ }

  -- sets that together have no bit P or above
  pub joined_plain : So (plain c) → join_over (3 * c.actions + c.states) (λ i. set_at file (head_bytes + set_bytes * i)) < 2 ^ c.props → Fits file c
  joined_plain v h =
      let all : Fit file c.props (3 * c.actions + c.states) head_bytes = joined_fit file c.props _ head_bytes h in
      record {
        action = λ _ i l. all i (omega arith);
        pre = λ w. absurd (fails_at w v);
        effect = λ w. absurd (fails_at w v);
        state = λ i l.
            let e : head_bytes + set_bytes * (3 * c.actions + i) ≡ states_at c + set_bytes * i = omega (arith, states_plain c v) in
            subst (λ (x : ℕ). set_at file x < 2 ^ c.props) e (all (3 * c.actions + i) (omega arith));
      }

  pub joined_long : So (fails (plain c)) → {p e s : ℕ} → p ≡ join_over c.actions (λ i. set_at file (long_head + set_bytes * i))
      → e ≡ join_over c.effects (λ e. join_over 3 (λ i. set_at file (when_at c e + set_bytes * i)))
      → s ≡ join_over c.states (λ i. set_at file (states_at c + set_bytes * i)) → union (union p e) s < 2 ^ c.props → Fits file c
  joined_long v {p} {e} {s} ep ee es h =
      let pe : union p e < 2 ^ c.props = lt_of_le_of_lt (le_or_l (union p e) s) h in
      record {
        action = λ w. absurd (fails_at v w);
        pre = λ _. joined_fit file c.props c.actions long_head (subst Small ep (lt_of_le_of_lt (le_or_l p e) pe));
        effect = λ _ k l. joined_fit file c.props 3 (when_at c k)
            (lt_of_le_of_lt (join_at c.effects (λ e. join_over 3 (λ i. set_at file (when_at c e + set_bytes * i))) k l) (subst Small ee (lt_of_le_of_lt (le_or_r p e) pe)));
        state = joined_fit file c.props c.states (states_at c) (subst Small es (lt_of_le_of_lt (le_or_r (union p e) s) h));
      }

  -- ---- what each set is

  module _ (r : Ranged c) (f : Fits file c) where
    at_fits : {x y : ℕ} → x ≡ y → set_at file x < 2 ^ c.props → set_at file y < 2 ^ c.props
    at_fits e h = subst (λ (z : ℕ). set_at file z < 2 ^ c.props) e h

    pub pre_fits : (a : ℕ) → a < c.actions → (actions_of file c).pre a < 2 ^ c.props
    unfolding actions_of
    pre_fits a h = ⊎_elim
        (λ v. at_fits (omega (arith, pre_plain c v a)) (f.action v (3 * a) (omega arith)))
        (λ v. at_fits (omega (arith, pre_long c v a)) (f.pre v a h)) (holds_or (plain c))

    pub when_fits : (e : ℕ) → e < c.effects → (actions_of file c).when e < 2 ^ c.props
    unfolding actions_of
    when_fits e h = ⊎_elim
        (λ v. subst (λ (x : ℕ). x < 2 ^ c.props) (sym (choose_held _ v)) (pow_pos c.props))
        (λ v. subst (λ (x : ℕ). x < 2 ^ c.props) (sym (choose_failed _ _ v)) (at_fits (omega arith) (f.effect v e h 0 (omega arith)))) (holds_or (plain c))

    -- set k of the three of an effect
    sets_fit : (e k : ℕ) → e < c.effects → k < 3 → set_at file (sets_at c e + set_bytes * k) < 2 ^ c.props
    sets_fit e k h l = ⊎_elim
        (λ v. at_fits (omega (arith, sets_plain c v e)) (f.action v (3 * e + k) (omega (arith, r.own v))))
        (λ v. at_fits (omega (arith, sets_long c v e)) (f.effect v e h k l)) (holds_or (plain c))

    pub add_fits : (e : ℕ) → e < c.effects → (actions_of file c).add e < 2 ^ c.props
    unfolding actions_of
    add_fits e h = at_fits (omega arith) (sets_fit e 1 h (omega arith))

    pub del_fits : (e : ℕ) → e < c.effects → (actions_of file c).del e < 2 ^ c.props
    unfolding actions_of
    del_fits e h = at_fits (omega arith) (sets_fit e 2 h (omega arith))

    pub start_fits : (s : ℕ) → s < c.states → start_of file c s < 2 ^ c.props
    unfolding start_of
    start_fits s h = f.state s h
