-- Version 1 as a case of the one record of actions: needs, interference and word of the relaxed run are those of document 01, the step that of request Five.
-- Assumes nothing.
use mathlib.Core.Path.{◌≡◌, sym, ap, ap₂, subst, subst₂, ◌∙◌}
use mathlib.Core.Bool.{So}
use mathlib.Core.Logic.{⊎_elim}
use Prim.Native.Nat.{ℕ, ◌-◌, ◌^◌, ◌<◌}
use lib.Pow.{pow_pos}
use Rattle.rules.specs.Test.{◌and◌, ◌or◌, below, choose}
use Rattle.rules.specs.Word.{bit, union, without, single, within}
use Rattle.rules.specs.Over.{keep, join_over}
use Rattle.rules.specs.Domain.{Actions, Plain, Sound, condition, needs_of, siblings, clobbers, interfere_of}
use Rattle.rules.specs.Run.{fires, fired, after}
use Rattle.rules.specs.Plan.{relaxed_step}
use Rattle.rules.proofs.Tests.{choose_same, and_of, and_left, and_right, or_left, or_at, fails_of, test_eq, same_of, same_at, below_at}
use Rattle.rules.proofs.Words.{bit_union, no_bit_zero, width, within_of, ext_all}
use Rattle.rules.proofs.Overs.{join_over_eq}
use Rattle.rules.proofs.Bounds.{fired_at, fired_of}

-- nothing joined changes nothing
union_none : {w : ℕ} → union w 0 ≡ w
union_none {w} = ext_all (λ i. bit_union i w 0 ∙ test_eq (λ t. ⊎_elim (λ h. h) (λ h. absurd (no_bit_zero i h)) (or_at t)) (or_left _))

none_within : {w : ℕ} (x : ℕ) → w ≡ 0 → So (within w x)
none_within x e = within_of x width (λ i h t. absurd (no_bit_zero i (ap (bit i) (sym e) ∙ t)))

module _ {A : Actions} (plain : Plain A) where
  effect_of : {a : ℕ} → a < A.count → a < A.effects
  effect_of {a} h = subst (λ (n : ℕ). a < n) (sym plain.effects) h

  -- version 1 has no cause 16
  pub plain_sound : ((a : ℕ) → a < A.count → A.pre a < 2 ^ A.props) → Sound A
  plain_sound h = record {
    pre = h;
    when = λ e l. subst (λ (w : ℕ). w < 2 ^ A.props) (sym (plain.when e l)) (pow_pos A.props);
    owner = λ e l. subst₂ (λ (a n : ℕ). a < n) (sym (plain.owner e l)) plain.effects l;
  }

  -- ---- the vertices

  pub plain_condition : {e : ℕ} → e < A.effects → condition A e ≡ A.pre e
  unfolding condition
  plain_condition {e} h = ap₂ (λ (a w : ℕ). union (A.pre a) w) (plain.owner e h) (plain.when e h) ∙ union_none

  pub plain_needs : (v : ℕ) → needs_of A v ≡ choose (below v A.count) (A.pre v) (single (v - A.count))
  unfolding needs_of
  plain_needs v =
      choose_same _ (λ b. plain_condition (below_at b)) ∙ ap (λ (n : ℕ). choose (below v n) (A.pre v) (single (v - n))) plain.effects

  -- 'Two different vertices interfere when one deletes something the other needs or adds', whatever they are
  pub plain_interfere : {v w : ℕ} → (v ≡ w → ⊥) → interfere_of A v w ≡ (clobbers A v w or clobbers A w v)
  unfolding interfere_of siblings
  plain_interfere {v} {w} ne = test_eq (and_right _) (and_of (fails_of (λ s.
      let u = and_right _ s in
      ne (sym (plain.owner v (below_at (and_left _ s))) ∙ same_at (and_right _ u) ∙ plain.owner w (below_at (and_left _ u))))))

  -- ---- a run: the action's deletes are removed and after that its adds joined

  plain_fired : {a : ℕ} (x : ℕ) (f : ℕ → ℕ) → a < A.count → fired A a x f ≡ f a
  unfolding fires
  plain_fired {a} x f h = ext_all (λ p. test_eq
      (λ t.
      let (e, l, k, b) = fired_at A a x p f t in
      subst (λ (i : ℕ). So (bit p (f i))) (sym (plain.owner e l) ∙ same_at (and_left _ k)) b)
      (fired_of A a x p f (effect_of h) (and_of (same_of (plain.owner a (effect_of h))) (none_within x (plain.when a (effect_of h))))))

  pub plain_after : {a : ℕ} (x : ℕ) → a < A.count → after A a x ≡ union (without x (A.del a)) (A.add a)
  unfolding after
  plain_after x h i = union (without x (plain_fired x A.del h i)) (plain_fired x A.add h i)

  -- ---- a plan: 'all actions of a word whose preconditions held before it join their adds'

  pub plain_step : (w x : ℕ) → relaxed_step A w x ≡ union x (join_over A.count (λ a. keep (bit a w and within (A.pre a) x) (A.add a)))
  unfolding relaxed_step
  plain_step w x = ap (λ (u : ℕ). union x u)
      (join_over_eq A.effects (λ e l i. keep (bit (plain.owner e l i) w and within (plain_condition l i) x) (A.add e))
      ∙ ap (λ (n : ℕ). join_over n (λ a. keep (bit a w and within (A.pre a) x) (A.add a))) plain.effects)
