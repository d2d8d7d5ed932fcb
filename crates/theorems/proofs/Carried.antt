-- What a step makes of a state, and what a list makes of it, by the run's rule and as said of each proposition.
-- Assumes nothing.
use mathlib.Core.Path.{◌≡◌, refl, sym, ap, subst, ◌∙◌}
use mathlib.Core.Bool.{So}
use mathlib.Core.List.{List, [], ◌∷◌}
use mathlib.Core.Logic.{inl, inr, ⊎_elim}
use Prim.Native.Nat.{ℕ, zero, suc, ◌^◌, ◌<◌}
use native.Mathlib.Omega.{arith}
use lib.ListN.{length, get_or}
use Rattle.rules.specs.Word.{bit, within}
use Rattle.rules.specs.Domain.{Actions}
use Rattle.rules.specs.Run.{ready, fires, fired, after, stepped, ended, run_from, run_of}
use Rattle.rules.proofs.Tests.{choose_held, test_eq, fails_of, fails_at, and_of, and_left, and_right, or_left, or_right, or_at}
use Rattle.rules.proofs.Tests.{implies_of, implies_at, same_of, same_at}
use Rattle.rules.proofs.Overs.{below_suc, all_of_lem, all_at}
use Rattle.rules.proofs.Words.{bit_below, ext_all}
use Rattle.rules.proofs.Layers.{get_d_list_over}
use Rattle.rules.proofs.Bounds.{fired_at, fired_of, bit_after, stepped_inside, run_ind}
use Rattle.theorems.specs.Setting.{Exactly, Each, ByFired, Makes, Carries}

-- ---- a step

module _ (A : Actions) (a x : ℕ) where
  by_fired_of : (sets : ℕ → ℕ) (p : ℕ) → So (bit p (fired A a x sets)) → ByFired A a x sets p
  unfolding fires
  by_fired_of sets p t =
      let (e, l, u, b) = fired_at A a x p sets t in
      (e, record { effect = l; own = same_at (and_left _ u); held = and_right _ u }, b)

  fired_of_by : (sets : ℕ → ℕ) (p : ℕ) → ByFired A a x sets p → So (bit p (fired A a x sets))
  unfolding fires
  fired_of_by sets p (e, f, b) = fired_of A a x p sets f.effect (and_of (same_of f.own) f.held) b

  -- the step of the rule makes what is said
  makes_after : Makes A a x (after A a x)
  makes_after p = (
    λ t. ⊎_elim
        (λ u. inr (and_left _ u, λ d. fails_at (and_right _ u) (fired_of_by A.del p d)))
        (λ u. inl (by_fired_of A.add p u))
        (or_at (sym (bit_after A a x p) ∙ t)),
    λ w. bit_after A a x p ∙ ⊎_elim
        (λ d. or_right _ (fired_of_by A.add p d))
        (λ (b, n). or_left _ (and_of b (fails_of (λ t. n (by_fired_of A.del p t))))) w,
  )

  -- and it alone
  makes_only : {y : ℕ} → Makes A a x y → y ≡ after A a x
  makes_only m = ext_all (λ p. test_eq (λ t. (makes_after p).1 ((m p).0 t)) (λ t. (m p).1 ((makes_after p).0 t)))

  pub makes_exactly : (y : ℕ) → Exactly (y ≡ after A a x) (Makes A a x y)
  makes_exactly y = (λ e. subst (Makes A a x) (sym e) makes_after, makes_only)

  pub adds_win : (p : ℕ) → ByFired A a x A.add p → So (bit p (after A a x))
  adds_win p b = (makes_after p).1 (inl b)

-- ---- a list, from one state

module _ {A : Actions} {a x y : ℕ} {list : List ℕ} (k : Carries A (a ∷ list) x y) where
  carried_ready : So (within (A.pre a) x)
  carried_ready = subst (λ (z : ℕ). So (within (A.pre a) z)) k.start (k.needs 0 (omega arith))

  carried_on : Carries A list (after A a x) y
  carried_on = record {
    sets = λ i. k.sets (suc i);
    start = makes_only A a (k.sets 0) (k.steps 0 (omega arith)) ∙ ap (after A a) k.start;
    needs = λ i h. k.needs (suc i) (omega arith);
    steps = λ i h. k.steps (suc i) (omega arith);
    end = k.end;
  }

-- what the rule makes of x in the first i steps
unfoldable along : Actions → List ℕ → ℕ → ℕ → ℕ
along A list x zero = x
along A list x (suc i) = after A (get_or list i 0) (along A list x i)

-- and step i has its precondition there
abbrev Held : Actions → List ℕ → ℕ → ℕ → Type 0
Held A list x i = So (within (A.pre (get_or list i 0)) (along A list x i))

along_carries : (A : Actions) (list : List ℕ) (x : ℕ) {y : ℕ} → ((i : ℕ) → i < length list → Held A list x i) → along A list x (length list) ≡ y
    → Carries A list x y
unfolding along
along_carries A list x needs end = record {
  sets = along A list x;
  start = refl;
  needs = needs;
  steps = λ i h. makes_after A (get_or list i 0) (along A list x i);
  end = end;
}

-- ---- a list, from each state of a set

module _ (A : Actions) (n : ℕ) {set : ℕ} (few : set < 2 ^ n) where
  -- carried out from each state, it runs, and to the same ends
  carried_from : (i : ℕ) (xs list to : List ℕ) → Each set (λ s. Carries A list (get_or xs s 0) (get_or to s 0))
      → (ends : List ℕ) × (run_from A n set i xs list ≡ ended ends) × Each set (λ s. get_or to s 0 ≡ get_or ends s 0)
  unfolding run_from ready
  carried_from i xs [] to each = (xs, refl, λ s b. sym (each s b).end ∙ (each s b).start)
  carried_from i xs (a ∷ list) to each =
      let (ends, e, same) = carried_from (suc i) (stepped A n set a xs) list to (λ s b.
      subst (λ (z : ℕ). Carries A list z (get_or to s 0)) (sym (stepped_inside A n set a xs (bit_below few b) b)) (carried_on (each s b))) in
      (ends, choose_held _ (all_of_lem (λ s h. implies_of (λ b. carried_ready (each s b)))) ∙ e, same)

  module _ (start : ℕ → ℕ) (list : List ℕ) where
    pub carried_runs : (to : List ℕ) → Each set (λ s. Carries A list (start s) (get_or to s 0))
        → (ends : List ℕ) × (run_of A n start set list ≡ ended ends) × Each set (λ s. get_or to s 0 ≡ get_or ends s 0)
    unfolding run_of
    carried_runs to each = carried_from 0 _ list to (λ s b.
        subst (λ (z : ℕ). Carries A list z (get_or to s 0)) (sym (get_d_list_over start (bit_below few b))) (each s b))

    -- and where it runs, it is carried out from each
    pub runs_carried : {ends : List ℕ} → run_of A n start set list ≡ ended ends → Each set (λ s. Carries A list (start s) (get_or ends s 0))
    unfolding run_of ready along
    runs_carried ran s b =
        let h = bit_below few b in
        let (at, needs) = run_ind A n set (λ t ys. (get_or ys s 0 ≡ along A list (start s) t) × ((i : ℕ) → i < t → Held A list (start s) i)) 0 list
        (λ t ys l r (e, before). (
          stepped_inside A n set (get_or list t 0) ys h b ∙ ap (after A (get_or list t 0)) e,
          λ i. below_suc {P = Held A list (start s)} (subst (λ (z : ℕ). So (within (A.pre (get_or list t 0)) z)) e (implies_at (all_at _ r h) b)) before,
        ))
        (get_d_list_over start h, λ i k. absurd (omega arith)) ran in
        along_carries A list (start s) needs (sym at)
