-- Steps that change no state of the set, and the lists that are left without them.
-- Assumes nothing.
use mathlib.Core.Path.{◌≡◌, refl, sym, ap, subst, ◌∙◌}
use mathlib.Core.Bool.{So}
use mathlib.Core.List.{List, [], ◌∷◌, ◌++◌}
use mathlib.Core.Logic.{⊎_elim}
use Prim.Native.Nat.{ℕ, zero, suc, ◌+◌, ◌≤◌, ◌<◌}
use native.Mathlib.Omega.{arith}
use lib.ListN.{length, get_or}
use Rattle.rules.specs.Test.{fails}
use Rattle.rules.specs.Word.{bit, single}
use Rattle.rules.specs.Over.{keep}
use Rattle.rules.specs.Lists.{list_over}
use Rattle.rules.specs.Domain.{Actions}
use Rattle.rules.specs.Run.{ready, after, stepped, idle, ended, run_from, run_of, idle_from, idle_of}
use Rattle.rules.proofs.Tests.{choose_held, choose_failed, implies_of, implies_at, holds_or, test_eq, same_of, same_at}
use Rattle.rules.proofs.Words.{single_has, single_only}
use Rattle.rules.proofs.Overs.{all_of_lem, all_at, keep_held, keep_failed, keep_le}
use Rattle.rules.proofs.Layers.{length_list_over, list_over_eq, list_over_self}

-- ---- one step

module _ (A : Actions) (n set a : ℕ) (xs : List ℕ) where
  pub idle_of_lem : ((s : ℕ) → s < n → So (bit s set) → after A a (get_or xs s 0) ≡ get_or xs s 0) → So (idle A n set a xs)
  unfolding idle
  idle_of_lem each = all_of_lem (λ s h. implies_of (λ b. same_of (each s h b)))

  pub idle_at_lem : So (idle A n set a xs) → (s : ℕ) → s < n → So (bit s set) → after A a (get_or xs s 0) ≡ get_or xs s 0
  unfolding idle
  idle_at_lem t s h b = same_at (implies_at (all_at _ t h) b)

  -- an idle step leaves the sets of all states
  stepped_idle : length xs ≡ n → So (idle A n set a xs) → stepped A n set a xs ≡ xs
  unfolding stepped
  stepped_idle long t =
      list_over_eq (λ s h. ⊎_elim (λ b. choose_held _ b ∙ idle_at_lem t s h b) (λ f. choose_failed _ _ f) (holds_or (bit s set)))
      ∙ subst (λ (m : ℕ). list_over m (λ s. get_or xs s 0) ≡ xs) long list_over_self

  stepped_long : length (stepped A n set a xs) ≡ n
  unfolding stepped
  stepped_long = length_list_over n _

  -- it counts, and no other does
  idle_counts : (list : List ℕ) → length xs ≡ n → So (idle A n set a xs) → idle_from A n set xs (a ∷ list) ≡ suc (idle_from A n set xs list)
  unfolding idle_from
  idle_counts list long t =
      let q = keep_held {c = idle A n set a xs} 1 t in
      let r = ap (λ (ys : List ℕ). idle_from A n set ys list) (stepped_idle long t) in
      omega (arith, q, r)

  moving_counts : (list : List ℕ) → So (fails (idle A n set a xs)) → idle_from A n set xs (a ∷ list) ≡ idle_from A n set (stepped A n set a xs) list
  unfolding idle_from
  moving_counts list f = let q = keep_failed (idle A n set a xs) 1 f in omega (arith, q)

module _ (A : Actions) (n set a : ℕ) where
  -- states outside the set do not count
  pub idle_same : (xs ys : List ℕ) → ((s : ℕ) → s < n → So (bit s set) → get_or xs s 0 ≡ get_or ys s 0) → idle A n set a xs ≡ idle A n set a ys
  idle_same xs ys agree = test_eq
      (λ t. idle_of_lem A n set a ys (λ s h b. subst (λ (x : ℕ). after A a x ≡ x) (agree s h b) (idle_at_lem A n set a xs t s h b)))
      (λ t. idle_of_lem A n set a xs (λ s h b. subst (λ (x : ℕ). after A a x ≡ x) (sym (agree s h b)) (idle_at_lem A n set a ys t s h b)))

  -- idle for each member by itself
  pub idle_alone : (xs : List ℕ) → So (idle A n set a xs) → (s : ℕ) → So (bit s set) → So (idle A n (single s) a xs)
  idle_alone xs t s b =
      idle_of_lem A n (single s) a xs (λ r h u. idle_at_lem A n set a xs t r h (subst (λ (i : ℕ). So (bit i set)) (sym (single_only refl u)) b))

  pub idle_together : (xs : List ℕ) → ((s : ℕ) → s < n → So (bit s set) → So (idle A n (single s) a xs)) → So (idle A n set a xs)
  idle_together xs each = idle_of_lem A n set a xs (λ s h b. idle_at_lem A n (single s) a xs (each s h b) s h (single_has s refl))

-- ---- a list that runs to its end, whatever number its first step has

record Ends (A : Actions) (n set : ℕ) (xs list ends : List ℕ) : Type 0 where
  ran : (i : ℕ) → run_from A n set i xs list ≡ ended ends

module _ {A : Actions} {n set : ℕ} where
  ends_here : {xs ends : List ℕ} → Ends A n set xs [] ends → xs ≡ ends
  unfolding run_from
  ends_here e = let q = e.ran 0 in cc

  ends_more : {a : ℕ} {xs list ends : List ℕ} → So (ready A n set a xs) → Ends A n set (stepped A n set a xs) list ends → Ends A n set xs (a ∷ list) ends
  unfolding run_from
  ends_more r e = record { ran = λ i. choose_held _ r ∙ e.ran (suc i) }

module _ (A : Actions) (n set : ℕ) where
  -- its first step is ready, and it goes on from there
  run_on : (i a : ℕ) (xs list : List ℕ) {ends : List ℕ} → run_from A n set i xs (a ∷ list) ≡ ended ends
      → So (ready A n set a xs) × (run_from A n set (suc i) (stepped A n set a xs) list ≡ ended ends)
  unfolding run_from
  run_on i a xs list e =
      ⊎_elim (λ r. (r, sym (choose_held _ r) ∙ e))
      (λ f. let z : ◌≡◌ {A = ℕ} 0 1 = cc (choose_failed _ _ f, e) in absurd (omega arith))
      (holds_or (ready A n set a xs))

  ends_of : (i : ℕ) (xs list : List ℕ) {ends : List ℕ} → run_from A n set i xs list ≡ ended ends → Ends A n set xs list ends
  unfolding run_from
  ends_of i xs [] e = record { ran = λ j. e }
  ends_of i xs (a ∷ list) e = let (r, on) = run_on i a xs list e in ends_more r (ends_of (suc i) (stepped A n set a xs) list on)

module _ {A : Actions} {n set a : ℕ} {xs list ends : List ℕ} (e : Ends A n set xs (a ∷ list) ends) where
  ends_first : So (ready A n set a xs)
  ends_first = (run_on A n set 0 a xs list (e.ran 0)).0

  ends_on : Ends A n set (stepped A n set a xs) list ends
  ends_on = ends_of A n set 1 (stepped A n set a xs) list (run_on A n set 0 a xs list (e.ran 0)).1

module _ {A : Actions} {n set : ℕ} where
  -- the sets stay as many
  ends_long : {xs ends : List ℕ} (list : List ℕ) → length xs ≡ n → Ends A n set xs list ends → length ends ≡ n
  ends_long [] long e = ap length (sym (ends_here e)) ∙ long
  ends_long {xs} (a ∷ list) long e = ends_long {xs = stepped A n set a xs} list (stepped_long A n set a xs) (ends_on e)

  -- the back of a list runs from where its front ends
  ends_back : {xs mid ends : List ℕ} (front back : List ℕ) → Ends A n set xs front mid → Ends A n set xs (front ++ back) ends → Ends A n set mid back ends
  ends_back {ends = ends} [] back e f = subst (λ (ys : List ℕ). Ends A n set ys back ends) (ends_here e) f
  ends_back {xs = xs} (a ∷ front) back e f = ends_back {xs = stepped A n set a xs} front back (ends_on e) (ends_on f)

  ends_joined : {xs mid ends : List ℕ} (front back : List ℕ) → Ends A n set xs front mid → Ends A n set mid back ends → Ends A n set xs (front ++ back) ends
  ends_joined {ends = ends} [] back e f = subst (λ (ys : List ℕ). Ends A n set ys back ends) (sym (ends_here e)) f
  ends_joined {xs = xs} (a ∷ front) back e f = ends_more (ends_first e) (ends_joined {xs = stepped A n set a xs} front back (ends_on e) f)

  -- and the idle steps of both are those of the list
  idle_joined : {xs mid : List ℕ} (front back : List ℕ) → Ends A n set xs front mid
      → idle_from A n set xs (front ++ back) ≡ idle_from A n set xs front + idle_from A n set mid back
  unfolding idle_from
  idle_joined {xs} {mid} [] back e =
      let q : idle_from A n set xs back ≡ idle_from A n set mid back = ap (λ (ys : List ℕ). idle_from A n set ys back) (ends_here e) in omega (arith, q)
  idle_joined {xs} (a ∷ front) back e = let q = idle_joined {xs = stepped A n set a xs} front back (ends_on e) in omega (arith, q)

  -- without an idle first step it ends the same
  ends_idle : {a : ℕ} {xs list ends : List ℕ} → length xs ≡ n → So (idle A n set a xs) → Ends A n set xs (a ∷ list) ends → Ends A n set xs list ends
  ends_idle {a} {xs} {list} {ends} long t e = subst (λ (ys : List ℕ). Ends A n set ys list ends) (stepped_idle A n set a xs long t) (ends_on e)

-- ---- what holds of each number of a list

abbrev pub Every : (ℕ → Type 0) → List ℕ → Type 0
Every P list = (i : ℕ) → i < length list → P (get_or list i 0)

module _ (P : ℕ → Type 0) (a : ℕ) where
  every_more : (list : List ℕ) → P a → Every P list → Every P (a ∷ list)
  every_more list p every zero h = p
  every_more list p every (suc i) h = every i (omega arith)

  every_on : (list : List ℕ) → Every P (a ∷ list) → Every P list
  every_on list every i h = every (suc i) (omega arith)

pub every_left_out : (P : ℕ → Type 0) (a : ℕ) (front back : List ℕ) → Every P (front ++ a ∷ back) → Every P (front ++ back)
every_left_out P a [] back every = every_on P a back every
every_left_out P a (b ∷ front) back every =
    every_more P b (front ++ back) (every 0 (omega arith)) (every_left_out P a front back (every_on P b (front ++ a ∷ back) every))

-- ---- an idle step left out: the list runs to the same sets, with one idle step less

module _ (A : Actions) (n : ℕ) (start : ℕ → ℕ) (set : ℕ) where
  abbrev starts : List ℕ
  starts = list_over n start

  ends_start : (list : List ℕ) {ends : List ℕ} → run_of A n start set list ≡ ended ends → Ends A n set starts list ends
  unfolding run_of
  ends_start list e = ends_of A n set 0 starts list e

  module _ (front back : List ℕ) (a : ℕ) {mid : List ℕ} (came : run_of A n start set front ≡ ended mid) (still : So (idle A n set a mid)) where
    mid_long : length mid ≡ n
    mid_long = ends_long front (length_list_over n start) (ends_start front came)

    pub left_out_runs : {ends : List ℕ} → run_of A n start set (front ++ a ∷ back) ≡ ended ends → run_of A n start set (front ++ back) ≡ ended ends
    unfolding run_of
    left_out_runs e =
        (ends_joined front back (ends_start front came)
        (ends_idle mid_long still (ends_back front (a ∷ back) (ends_start front came) (ends_start (front ++ a ∷ back) e)))).ran 0

    pub left_out_idle : idle_of A n start set (front ++ a ∷ back) ≡ suc (idle_of A n start set (front ++ back))
    unfolding idle_of
    left_out_idle =
        omega (
          arith,
          idle_joined front (a ∷ back) (ends_start front came),
          idle_joined front back (ends_start front came),
          idle_counts A n set a mid back mid_long still,
        )

-- ---- how many they are

module _ (A : Actions) (n set : ℕ) where
  idle_most : (xs list : List ℕ) → idle_from A n set xs list ≤ length list
  unfolding idle_from
  idle_most xs [] = omega arith
  idle_most xs (a ∷ list) =
      let k : keep (idle A n set a xs) 1 ≤ 1 = keep_le (λ _. omega arith) in
      omega (arith, k, idle_most (stepped A n set a xs) list)

  -- where all are idle, the run ends where it began
  all_idle : {xs ends : List ℕ} (list : List ℕ) → length xs ≡ n → Ends A n set xs list ends → idle_from A n set xs list ≡ length list → ends ≡ xs
  all_idle [] long e q = sym (ends_here e)
  all_idle {xs} (a ∷ list) long e q =
      ⊎_elim
      (λ t. all_idle list long (ends_idle long t e) (omega (arith, q, idle_counts A n set a xs list long t)))
      (λ f. absurd (omega (arith, q, moving_counts A n set a xs list f, idle_most (stepped A n set a xs) list)))
      (holds_or (idle A n set a xs))

  pub idles_most : (start : ℕ → ℕ) (list : List ℕ) → idle_of A n start set list ≤ length list
  unfolding idle_of
  idles_most start list = idle_most (list_over n start) list

  pub idles_all : (start : ℕ → ℕ) (list : List ℕ) {ends : List ℕ} → run_of A n start set list ≡ ended ends → idle_of A n start set list ≡ length list
      → ends ≡ list_over n start
  unfolding idle_of
  idles_all start list e q = all_idle list (length_list_over n start) (ends_start A n start set list e) q

-- ---- all idle steps left out

-- a list that is left of one: it ends the same, with no idle step and as many steps as the other has that are not idle, each of them one of the other
record Trimmed (A : Actions) (n set : ℕ) (P : ℕ → Type 0) (xs list ends : List ℕ) : Type 0 where
  left : List ℕ
  same_ends : Ends A n set xs left ends
  none_idle : idle_from A n set xs left ≡ 0
  others : length left + idle_from A n set xs list ≡ length list
  every : Every P left

module _ (A : Actions) (n set : ℕ) (P : ℕ → Type 0) where
  trim : {xs ends : List ℕ} (list : List ℕ) → length xs ≡ n → Every P list → Ends A n set xs list ends → Trimmed A n set P xs list ends
  unfolding idle_from
  trim [] long every e = record { left = []; same_ends = e; none_idle = refl; others = refl; every = every }
  trim {xs} (a ∷ list) long every e =
      ⊎_elim
      (λ t.
      let r : Trimmed A n set P xs list _ = trim list long (every_on P a list every) (ends_idle long t e) in
      record {
        left = r.left;
        same_ends = r.same_ends;
        none_idle = r.none_idle;
        others = omega (arith, r.others, idle_counts A n set a xs list long t);
        every = r.every;
      })
      (λ f.
      let r : Trimmed A n set P (stepped A n set a xs) list _ = trim {xs = stepped A n set a xs} list (stepped_long A n set a xs) (every_on P a list every) (ends_on e) in
      record {
        left = a ∷ r.left;
        same_ends = ends_more (ends_first e) r.same_ends;
        none_idle = moving_counts A n set a xs r.left f ∙ r.none_idle;
        others = omega (arith, r.others, moving_counts A n set a xs list f);
        every = every_more P a r.left (every 0 (omega arith)) r.every;
      })
      (holds_or (idle A n set a xs))

  pub trimmed : (start : ℕ → ℕ) (list : List ℕ) {ends : List ℕ} → Every P list → run_of A n start set list ≡ ended ends
      → (left : List ℕ) × (run_of A n start set left ≡ ended ends) × (idle_of A n start set left ≡ 0) × (length left + idle_of A n start set list ≡ length list)
      × Every P left
  unfolding run_of idle_of
  trimmed start list every e =
      let r = trim list (length_list_over n start) every (ends_start A n start set list e) in
      (r.left, r.same_ends.ran 0, r.none_idle, r.others, r.every)
