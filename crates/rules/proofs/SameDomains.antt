-- The same actions make the same vertices, and so every graph, own graph and level; and they run the same way.
-- Assumes nothing.
use mathlib.Core.Path.{◌≡◌, sym, ap, ap₂, subst, subst₂, ◌∙◌}
use mathlib.Core.Bool.{Bool}
use Prim.Native.Nat.{ℕ, ◌+◌, ◌-◌, ◌<◌}
use Rattle.rules.specs.Test.{◌and◌, ◌or◌, fails, below, choose}
use Rattle.rules.specs.Test as test
use Rattle.rules.specs.Word.{union, without, single, meets, within}
use Rattle.rules.specs.Over.{keep, join_over}
use Rattle.rules.specs.Domain.{Actions, SameActions, Sound, condition, needs_of, adds_of, deletes_of, siblings, clobbers, interfere_of, domain}
use Rattle.rules.specs.Run.{fires, fired, after}
use Rattle.rules.proofs.Tests.{choose_same, and_of, and_left, and_right, test_eq, below_at}
use Rattle.rules.proofs.Overs.{join_over_eq}
use Rattle.rules.proofs.SamePlans.{SameNeeds}

-- what is read of an effect below the count; a persistence has it of itself
field_same : {v n n' x x' : ℕ} (y : ℕ → ℕ) → n ≡ n' → (v < n → x ≡ x') → choose (below v n) x (y n) ≡ choose (below v n') x' (y n')
field_same {v} {x'} y e h = choose_same _ (λ b. h (below_at b)) ∙ ap (λ (k : ℕ). choose (below v k) x' (y k)) e

module _ {A A' : Actions} (same : SameActions A A') where
  -- ---- a step: it reads what its effects say, and no precondition

  fired_same : (a x : ℕ) {f f' : ℕ → ℕ} → ((e : ℕ) → e < A.effects → f e ≡ f' e) → fired A a x f ≡ fired A' a x f'
  unfolding fired fires
  fired_same a x {f' = f'} h =
      join_over_eq A.effects (λ e l i. keep (test.same (same.owner e l i) a and within (same.when e l i) x) (h e l i))
      ∙ ap (λ (n : ℕ). join_over n (λ e. keep (fires A' a x e) (f' e))) same.effects

  pub after_same : (a x : ℕ) → after A a x ≡ after A' a x
  unfolding after
  after_same a x i = union (without x (fired_same a x same.del i)) (fired_same a x same.add i)

  -- ---- the vertices

  pub adds_same : (v : ℕ) → adds_of A v ≡ adds_of A' v
  unfolding adds_of
  adds_same v = field_same (λ n. single (v - n)) same.effects (same.add v)

  pub deletes_same : (v : ℕ) → deletes_of A v ≡ deletes_of A' v
  unfolding deletes_of
  deletes_same v = field_same (λ n. 0) same.effects (same.del v)

  siblings_same : (v w : ℕ) → siblings A v w ≡ siblings A' v w
  unfolding siblings
  siblings_same v w =
      both (λ h. both (λ k i. test.same (same.owner v h i) (same.owner w k i)))
      ∙ λ i. below v (same.effects i) and below w (same.effects i) and test.same (A'.owner v) (A'.owner w)
    where
      both : {u : ℕ} {b b' : Bool} → (u < A.effects → b ≡ b') → (below u A.effects and b) ≡ (below u A.effects and b')
      both e = test_eq (λ t. and_of (and_left _ t) (sym (e (below_at (and_left _ t))) ∙ and_right _ t))
          (λ t. and_of (and_left _ t) (e (below_at (and_left _ t)) ∙ and_right _ t))

  -- the precondition is the same where the owner is an action: then the vertices are, and with them every graph
  module _ (sound : Sound A') where
    condition_same : {e : ℕ} → e < A.effects → condition A e ≡ condition A' e
    unfolding condition
    condition_same {e} h =
        let known : A.owner e < A.count =
        subst₂ (λ (a n : ℕ). a < n) (sym (same.owner e h)) (sym same.count) (sound.owner e (subst (λ (n : ℕ). e < n) same.effects h)) in
        ap₂ union (same.pre (A.owner e) known ∙ ap A'.pre (same.owner e h)) (same.when e h)

    pub needs_same : (v : ℕ) → needs_of A v ≡ needs_of A' v
    unfolding needs_of
    needs_same v = field_same (λ n. single (v - n)) same.effects condition_same

    clobbers_same : (v w : ℕ) → clobbers A v w ≡ clobbers A' v w
    unfolding clobbers
    clobbers_same v w i = meets (deletes_same v i) (union (needs_same w i) (adds_same w i))

    interfere_same : (v w : ℕ) → interfere_of A v w ≡ interfere_of A' v w
    unfolding interfere_of
    interfere_same v w i = fails (siblings_same v w i) and (clobbers_same v w i or clobbers_same w v i)

    pub domain_same : domain A ≡ domain A'
    unfolding domain
    domain_same i = record {
      props = same.props i;
      vertices = same.effects i + same.props i;
      needs = λ v. needs_same v i;
      adds = λ v. adds_same v i;
      interfere = λ v w. interfere_same v w i;
    }

    -- what a plan reads of them is the same
    pub plan_reads : SameNeeds A A'
    plan_reads = record { props = same.props; effects = same.effects; owner = same.owner; needs = needs_same; adds = adds_same }
