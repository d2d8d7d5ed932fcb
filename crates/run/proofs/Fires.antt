-- Version 2: what a step does to the words of states is what the rule does to the set of each state.
-- Assumes nothing.
use Prim.Native.Nat.{ℕ, zero, suc, ◌+◌, ◌^◌, ◌≤◌, ◌<◌}
use mathlib.Core.Path.{◌≡◌, refl, sym, ap, ap₂, subst, ◌∙◌}
use mathlib.Core.Bool.{Bool, true, false, So}
use mathlib.Core.Logic.{⊎_elim}
use mathlib.Core.List.{List}
use native.Mathlib.Nat.{add-zero, zero-add, add_assoc}
use native.Mathlib.Numerals.{add-one}
use native.Mathlib.Omega.{arith}
use lib.ListN.{length, get_or, drop}
use Rattle.rules.specs.Test.{◌and◌, ◌or◌, fails, same, choose}
use Rattle.rules.specs.Word.{bit, common, union, without, single, within}
use Rattle.rules.specs.Over.{keep, join_of, meet_of}
use Rattle.rules.specs.Lists.{list_over}
use Rattle.rules.specs.Domain.{Actions}
use Rattle.rules.specs.Shared.{start_label}
use Rattle.rules.specs.Run.{ready, fires, fired, after, stepped, idle, ended, lacks, run_from, run_of, idle_from, idle_of}
use Rattle.rules.proofs.Tests.{choose_held, choose_failed, holds_or, fails_of, fails_at, and_of, and_left, and_right}
use Rattle.rules.proofs.Tests.{implies_of, implies_at, same_of, same_at, test_eq}
use Rattle.rules.proofs.Overs.{below_suc, all_of_lem, all_at, any_of, any_at, bit_keep, join_over_eq, join_over_lt, meet_over_lt}
use Rattle.rules.proofs.Overs.{keep_lt, keep_held, keep_failed, choose_lt}
use Rattle.rules.proofs.Words.{bit_union, bit_without, ext, within_of, within_at, union_lt, without_lt}
use Rattle.rules.proofs.Members.{bit_join_of, meet_of_at, meet_of_of, bit_those, bit_start_label, start_label_lt}
use Rattle.rules.proofs.Layers.{length_list_over, get_d_list_over, list_over_eq}
use Rattle.rules.proofs.Bounds.{fired_at, fired_of, bit_after}
use Rattle.rules.proofs.Firsts.{first_le, first_before, first_at, first_unique}
use Rattle.words.specs.Width.{prop_width}
use Rattle.words.specs.Rows.{row_length}
use Rattle.words.proofs.Writes.{list_all}
use Rattle.graph.specs.Limits.{max_effects}
use Rattle.graph.specs.Verdict.{accepted, refused}
use Rattle.graph.specs.Format.{actions_of, start_of}
use Rattle.graph.specs.declared.format.Counts.{Counts}
use Rattle.run.specs.Course.{Known, Checked}
use Rattle.run.specs.Run.{ran_verdict, end_rule, idle_steps}
use Rattle.run.specs.Fire.{labels_of, set_in, effects_of, having, fired_in, touched, applied_in}
use Rattle.run.specs.Fire.{course_in, stepped_in, ready_in, same_rows, told, answer_in, labels_at, ready_at, first_lack, idle_at, Stepping}
use Rattle.run.specs.declared.fire.Stepped.{Stepped}
use Rattle.run.specs.declared.fire.Stepped.TheVariants as did
use Rattle.run.proofs.Idles.{had_word, rows_same, same_row}
use Rattle.run.proofs.Runs.{Narrow, narrow_of, run_turn, run_end, idle_turn, idle_end}

-- ---- a step's answer

-- an answer that is neither of the other two
pub missing : (r : Stepped) → (r ≡ did.Unchanged → ⊥) → ((next : ℕ) → r ≡ did.Changed next → ⊥) → r ≡ did.Missing
missing did.Missing p q = refl
missing (did.Changed next) p q = absurd (q next refl)
missing did.Unchanged p q = absurd (p refl)

-- ---- one step: n states, whose sets are xs

module _ (n : ℕ) (xs : List ℕ) where
  -- state s is in the word of p when its set has p
  label_bit : {s p : ℕ} → s < n → p < row_length → bit s (get_or (labels_of n xs) p 0) ≡ bit p (get_or xs s 0)
  unfolding labels_of
  label_bit {s} {p} h l = ap (bit s) (get_d_list_over _ l) ∙ bit_start_label (λ i. get_or xs i 0) p h

  label_lt : {p : ℕ} → p < row_length → get_or (labels_of n xs) p 0 < 2 ^ n
  unfolding labels_of
  label_lt {p} l = subst (λ (w : ℕ). w < 2 ^ n) (sym (get_d_list_over _ l)) (start_label_lt n _ p)

  -- the sets are read back
  pub sets_back : length xs ≡ n → ((s : ℕ) → s < n → get_or xs s 0 < 2 ^ prop_width) → list_over n (set_in (labels_of n xs)) ≡ xs
  unfolding set_in
  sets_back long narrow =
      list_over_eq (λ s h. ext (start_label_lt row_length _ s) (narrow s h) (λ p l. bit_start_label (λ i. get_or (labels_of n xs) i 0) s l ∙ label_bit h l))
      ∙ list_all xs long

  module _ (set : ℕ) (inside : set < 2 ^ n) where
    having_lt : (props : ℕ) → having (labels_of n xs) set props < 2 ^ n
    unfolding having meet_of
    having_lt props = meet_over_lt n _ row_length inside

    -- which states of the set have them
    having_bit : {s : ℕ} (props : ℕ) → s < n → props < 2 ^ prop_width
        → bit s (having (labels_of n xs) set props) ≡ (bit s set and within props (get_or xs s 0))
    unfolding having
    having_bit {s} props h small = test_eq
        (λ t.
        let (i, each) = meet_of_at s props set (λ p. get_or (labels_of n xs) p 0) t in
        and_of i (within_of (get_or xs s 0) small (λ p l m. sym (label_bit h l) ∙ each p l m)))
        (λ t. meet_of_of s props set (λ p. get_or (labels_of n xs) p 0) (and_left _ t)
        (λ p l m. label_bit h l ∙ within_at props (get_or xs s 0) p (and_right _ t) m))

    -- 'A step needs its precondition in every state of S'
    pub ready_is : (A : Actions) (a : ℕ) → A.pre a < 2 ^ prop_width → ready_in A set a (labels_of n xs) ≡ ready A n set a xs
    unfolding ready_in ready
    ready_is A a small = test_eq
        (λ t. all_of_lem (λ s h. implies_of (λ i. and_right _ (sym (having_bit (A.pre a) h small) ∙ ap (bit s) (same_at t) ∙ i))))
        (λ t. same_of (ext (having_lt (A.pre a)) inside (λ s h. having_bit (A.pre a) h small
        ∙ test_eq (and_left _) (λ i. and_of i (implies_at (all_at _ t h) i)))))

    module _ (A : Actions) (a : ℕ) (few : A.effects ≤ max_effects) (when : (e : ℕ) → e < A.effects → A.when e < 2 ^ prop_width) where
      abbrev fires_in : List ℕ
      fires_in = list_over max_effects (fired_in A set (labels_of n xs))

      abbrev concerned : (ℕ → ℕ) → ℕ → ℕ
      concerned sets p = touched A.effects sets (effects_of A a) fires_in p

      word : {e : ℕ} → e < A.effects → get_or fires_in e 0 ≡ having (labels_of n xs) set (A.when e)
      unfolding fired_in
      word l = get_d_list_over _ (omega arith)

      concerned_lt : (sets : ℕ → ℕ) (p : ℕ) → concerned sets p < 2 ^ n
      unfolding touched join_of
      concerned_lt sets p = join_over_lt n _ (λ e l. keep_lt n (λ t. keep_lt n (λ u. subst (λ (w : ℕ). w < 2 ^ n) (sym (word l)) (having_lt (A.when e)))))

      -- p is in what the fired effects have together, in a state of the set
      concerned_bit : {s : ℕ} (sets : ℕ → ℕ) (p : ℕ) → s < n → bit s (concerned sets p) ≡ (bit s set and bit p (fired A a (get_or xs s 0) sets))
      unfolding touched effects_of fires
      concerned_bit {s} sets p h = test_eq
          (λ t.
          let (e, l, u) = any_at (sym (bit_join_of s A.effects _ _) ∙ t) in
          let v = sym (bit_keep s (bit p (sets e)) _) ∙ and_right _ u in
          let w = sym (ap (bit s) (word l) ∙ having_bit (A.when e) h (when e l)) ∙ and_right _ v in
          and_of (and_left _ w) (fired_of A a (get_or xs s 0) p sets l
          (and_of (sym (bit_those (λ i. same (A.owner i) a) l) ∙ and_left _ u) (and_right _ w)) (and_left _ v)))
          (λ t.
          let (e, l, u, v) = fired_at A a (get_or xs s 0) p sets (and_right _ t) in
          bit_join_of s A.effects _ _ ∙ any_of _ l (and_of (bit_those (λ i. same (A.owner i) a) l ∙ and_left _ u)
          (bit_keep s (bit p (sets e)) _ ∙ and_of v (ap (bit s) (word l) ∙ having_bit (A.when e) h (when e l) ∙ and_of (and_left _ t) (and_right _ u)))))

      -- a state outside of the set is in none of these words
      moved : (i x y z : Bool) → ((x and fails (i and y)) or (i and z)) ≡ choose i ((x and fails y) or z) x
      unfolding ◌and◌ ◌or◌ fails choose
      moved true x y z = refl
      moved false true y z = refl
      moved false false y z = refl

      stepped_bit : {s p : ℕ} → s < n → p < row_length
          → bit s (union (without (get_or (labels_of n xs) p 0) (concerned A.del p)) (concerned A.add p)) ≡ bit p (get_or (stepped A n set a xs) s 0)
      unfolding stepped
      stepped_bit {s} {p} h l =
          let x = get_or xs s 0 in
          bit_union s (without (get_or (labels_of n xs) p 0) (concerned A.del p)) (concerned A.add p)
          ∙ ap₂ ◌or◌
          (bit_without s (get_or (labels_of n xs) p 0) (concerned A.del p)
          ∙ ap₂ (λ (y z : Bool). y and fails z) (label_bit h l) (concerned_bit A.del p h))
          (concerned_bit A.add p h)
          ∙ moved (bit s set) (bit p x) (bit p (fired A a x A.del)) (bit p (fired A a x A.add))
          ∙ ap (λ (b : Bool). choose (bit s set) b (bit p x)) (sym (bit_after A a x p))
          ∙ choose_bit (bit s set) (after A a x) x
          ∙ ap (bit p) (sym (get_d_list_over _ h))
        where
          choose_bit : (i : Bool) (y x : ℕ) → choose i (bit p y) (bit p x) ≡ bit p (choose i y x)
          choose_bit i y x = ⊎_elim
              (λ t. choose_held _ t ∙ ap (bit p) (sym (choose_held _ t)))
              (λ t. choose_failed _ _ t ∙ ap (bit p) (sym (choose_failed _ _ t))) (holds_or i)

      stepped_lt : {p : ℕ} → p < row_length → union (without (get_or (labels_of n xs) p 0) (concerned A.del p)) (concerned A.add p) < 2 ^ n
      stepped_lt {p} l = union_lt n (without_lt n _ (label_lt l)) (concerned_lt A.add p)

      -- 'Deletes are removed first, adds joined after', in each state
      pub stepped_is : stepped_in A set a (labels_of n xs) ≡ labels_of n (stepped A n set a xs)
      unfolding stepped_in applied_in labels_of
      stepped_is = list_over_eq (λ p l. ext (stepped_lt l) (start_label_lt n _ p) (λ s h.
          stepped_bit h l ∙ sym (bit_start_label (λ i. get_or (stepped A n set a xs) i 0) p h)))

-- request Eight: the step changes no state of the set
module _ (n : ℕ) (xs : List ℕ) (set : ℕ) (inside : set < 2 ^ n) (A : Actions) (a : ℕ) (few : A.effects ≤ max_effects)
    (when : (e : ℕ) → e < A.effects → A.when e < 2 ^ prop_width) (long : length xs ≡ n) (narrow : (s : ℕ) → s < n → get_or xs s 0 < 2 ^ prop_width)
    (narrow' : (s : ℕ) → s < n → get_or (stepped A n set a xs) s 0 < 2 ^ prop_width) where
  stays_at : {s : ℕ} → s < n → So (same_rows (labels_of n xs) (stepped_in A set a (labels_of n xs))) → get_or (stepped A n set a xs) s 0 ≡ get_or xs s 0
  unfolding same_rows
  stays_at {s} h t = ext {n = prop_width} (narrow' s h) (narrow s h) (λ p l.
      sym (label_bit n (stepped A n set a xs) h l)
      ∙ ap (bit s) (sym (same_at (all_at _ t l) ∙ ap (λ (w : List ℕ). get_or w p 0) (stepped_is n xs set inside A a few when))) ∙ label_bit n xs h l)

  idle_is : same_rows (labels_of n xs) (stepped_in A set a (labels_of n xs)) ≡ idle A n set a xs
  unfolding idle stepped
  idle_is = test_eq
      (λ t. all_of_lem (λ s h. implies_of (λ i. same_of (sym (get_d_list_over _ h ∙ choose_held _ i) ∙ stays_at h t))))
      (λ t.
      let e : stepped A n set a xs ≡ xs = list_over_eq (λ s h. ⊎_elim
      (λ i. choose_held _ i ∙ same_at (implies_at (all_at _ t h) i)) (choose_failed _ _) (holds_or (bit s set))) ∙ list_all xs long in
      subst (λ (l : List ℕ). So (same_rows (labels_of n xs) l)) (sym (stepped_is n xs set inside A a few when ∙ ap (labels_of n) e)) (same_row (labels_of n xs)))

-- the test of a step's precondition, and what a step answers by it
module _ (A : Actions) (set a : ℕ) (labels : List ℕ) {course w : ℕ} (small : A.pre a < 2 ^ prop_width) (is : course ≡ course_in set labels)
    (named : w ≡ A.pre a) where
  asked : same (common course w) 0 ≡ ready_in A set a labels
  unfolding ready_in
  asked = ap₂ (λ (x y : ℕ). same (common x y) 0) is named ∙ had_word set labels (A.pre a) small

  pub step_missing : (common course w ≡ 0 → ⊥)
      → (did.Missing ≡ answer_in A set a labels) × (labels ≡ choose (ready_in A set a labels) (stepped_in A set a labels) labels)
  unfolding answer_in
  step_missing off =
      let f : So (fails (ready_in A set a labels)) = fails_of (λ t. off (same_at (asked ∙ t))) in
      (sym (choose_failed _ _ f), sym (choose_failed _ _ f))

  pub step_made : {by : ℕ} {r : Stepped} {labels' : List ℕ} → common course w ≡ 0 → by ≡ effects_of A a → labels' ≡ applied_in A set by labels
      → r ≡ told set labels (applied_in A set by labels)
      → (r ≡ answer_in A set a labels) × (labels' ≡ choose (ready_in A set a labels) (stepped_in A set a labels) labels)
  unfolding answer_in stepped_in
  step_made {by} {r} {labels'} e own end' answer =
      let t : So (ready_in A set a labels) = sym asked ∙ same_of e in
      let end : labels' ≡ applied_in A set (effects_of A a) labels = end' ∙ ap (λ (x : ℕ). applied_in A set x labels) own in
      (answer ∙ ap (λ (x : ℕ). told set labels (applied_in A set x labels)) own ∙ sym (choose_held _ t), end ∙ sym (choose_held _ t))

-- a step leaves sets of propositions
pub stepped_narrow : (A : Actions) (n set a : ℕ) (xs : List ℕ) → ((e : ℕ) → e < A.effects → A.add e < 2 ^ prop_width)
    → ((s : ℕ) → s < n → get_or xs s 0 < 2 ^ prop_width) → (s : ℕ) → s < n → get_or (stepped A n set a xs) s 0 < 2 ^ prop_width
unfolding stepped after fired
stepped_narrow A n set a xs add small s h = subst (λ (x : ℕ). x < 2 ^ prop_width) (sym (get_d_list_over _ h))
    (choose_lt (λ t. union_lt prop_width (without_lt prop_width _ (small s h)) (join_over_lt prop_width _ (λ e l. keep_lt prop_width (λ u. add e l)))) (small s h))

-- ---- the steps of a list

-- the sets after the first i of them
unfoldable sets_at : Actions → ℕ → ℕ → List ℕ → List ℕ → ℕ → List ℕ
sets_at A n set list xs zero = xs
sets_at A n set list xs (suc i) = stepped A n set (get_or list i 0) (sets_at A n set list xs i)

-- before the first
start_labels : (n : ℕ) (start : ℕ → ℕ) → list_over row_length (start_label n start) ≡ labels_of n (list_over n start)
unfolding labels_of start_label
start_labels n start = list_over_eq (λ p l. join_over_eq n (λ s h. ap (λ (x : ℕ). keep (bit p x) (single s)) (sym (get_d_list_over start h))))

module _ {A : Actions} {n : ℕ} {start : ℕ → ℕ} (narrow : Narrow A n start) {set : ℕ} (inside : set < 2 ^ n) (list : List ℕ)
    (known : Known A.count list) where
  abbrev sets : ℕ → List ℕ
  sets i = sets_at A n set list (list_over n start) i

  abbrev labels : List ℕ
  labels = list_over row_length (start_label n start)

  sets_long : (i : ℕ) → length (sets i) ≡ n
  unfolding sets_at stepped
  sets_long zero = length_list_over n start
  sets_long (suc i) = length_list_over n _

  sets_small : (i s : ℕ) → s < n → get_or (sets i) s 0 < 2 ^ prop_width
  unfolding sets_at
  sets_small zero s h = subst (λ (x : ℕ). x < 2 ^ prop_width) (sym (get_d_list_over start h)) (narrow.starts s h)
  sets_small (suc i) s h = stepped_narrow A n set (get_or list i 0) (sets i) narrow.add (sets_small i) s h

  labels_at_lem : (i : ℕ) → labels_at A set list labels i ≡ labels_of n (sets i)
  unfolding labels_at sets_at
  labels_at_lem zero = start_labels n start
  labels_at_lem (suc i) = ap (stepped_in A set (get_or list i 0)) (labels_at_lem i) ∙ stepped_is n (sets i) set inside A (get_or list i 0) narrow.effects narrow.when

  ready_at_lem : (i : ℕ) → i < length list → ready_at A set list labels i ≡ ready A n set (get_or list i 0) (sets i)
  unfolding ready_at
  ready_at_lem i h = ap (ready_in A set (get_or list i 0)) (labels_at_lem i) ∙ ready_is n (sets i) set inside A (get_or list i 0) (narrow.pre _ (known i h))

  -- what is left of the run, once the steps before i had their preconditions
  run_at : (i : ℕ) → i ≤ length list → ((k : ℕ) → k < i → So (ready_at A set list labels k))
      → run_of A n start set list ≡ run_from A n set i (sets i) (drop i list)
  unfolding run_of sets_at
  run_at zero h had = refl
  run_at (suc i) h had =
      run_at i (omega arith) (λ k l. had k (omega arith)) ∙ run_turn A n set (sets i) list (get_or list i 0) h refl
      ∙ choose_held _ (sym (ready_at_lem i h) ∙ had i (omega arith))

  -- the idle steps so far, and what is left of them
  idle_step : (i : ℕ) → same_rows (labels_at A set list labels i) (labels_at A set list labels (suc i)) ≡ idle A n set (get_or list i 0) (sets i)
  unfolding labels_at
  idle_step i =
      ap (λ (l : List ℕ). same_rows l (stepped_in A set (get_or list i 0) l)) (labels_at_lem i)
      ∙ idle_is n (sets i) set inside A (get_or list i 0) narrow.effects narrow.when (sets_long i) (sets_small i)
      (stepped_narrow A n set (get_or list i 0) (sets i) narrow.add (sets_small i))

  idle_left : (i : ℕ) → i ≤ length list → idle_at A set list labels i + idle_from A n set (sets i) (drop i list) ≡ idle_of A n start set list
  unfolding idle_at idle_of sets_at
  idle_left zero h = zero-add _
  idle_left (suc i) h =
      ap (λ (b : Bool). (idle_at A set list labels i + keep b 1) + idle_from A n set (sets (suc i)) (drop (suc i) list)) (idle_step i)
      ∙ add_assoc (idle_at A set list labels i) _ _
      ∙ ap (λ (x : ℕ). idle_at A set list labels i + x) (sym (idle_turn A n set (sets i) list (get_or list i 0) h refl))
      ∙ idle_left i (omega arith)

  idle_done : {i : ℕ} → i ≤ length list → length list ≤ i → idle_at A set list labels i ≡ idle_of A n start set list
  idle_done {i} l h =
      sym (add-zero _) ∙ ap (λ (x : ℕ). idle_at A set list labels i + x) (sym (idle_end A n set (sets i) list h)) ∙ idle_left i l

  module _ {i : ℕ} (stop : i ≡ first_lack A set list labels) where
    before_stop : run_of A n start set list ≡ run_from A n set i (sets i) (drop i list)
    unfolding first_lack
    before_stop = run_at i (subst (λ (x : ℕ). x ≤ length list) (sym stop) (first_le (length list) _))
        (λ k l. ⊎_elim (λ t. t) (λ t. absurd (first_before (length list) _ k (subst (λ (x : ℕ). k < x) stop l) t)) (holds_or (ready_at A set list labels k)))

    -- step i lacks its precondition, or all had theirs
    pub fire_off : i < length list → run_of A n start set list ≡ lacks i
    unfolding first_lack
    fire_off h = before_stop ∙ run_turn A n set (sets i) list (get_or list i 0) h refl
        ∙ choose_failed _ _ (ap fails (sym (ready_at_lem i h)) ∙ subst (λ (x : ℕ). So (fails (ready_at A set list labels x))) (sym stop)
        (first_at (length list) _ (subst (λ (x : ℕ). x < length list) stop h)))

    pub fire_done : length list ≤ i → run_of A n start set list ≡ ended (list_over n (set_in (labels_at A set list labels i)))
    fire_done h = before_stop ∙ run_end A n set (sets i) list h
        ∙ ap ended (sym (ap (λ (l : List ℕ). list_over n (set_in l)) (labels_at_lem i) ∙ sets_back n (sets i) (sets_long i) (sets_small i)))

-- ---- a loop over the steps: i of them had their preconditions

-- where it stops, and with what
abbrev pub Stopped : Actions → ℕ → List ℕ → List ℕ → List ℕ → ℕ → ℕ → Type 0
Stopped A set list labels₀ labels i idle =
    (i ≡ first_lack A set list labels₀) × (idle ≡ idle_at A set list labels₀ i) × (labels ≡ labels_at A set list labels₀ i)

-- what an answer says of a step
module _ (A : Actions) (set a : ℕ) (labels : List ℕ) where
  told_by : So (ready_in A set a labels) → answer_in A set a labels ≡ told set labels (stepped_in A set a labels)
  unfolding answer_in
  told_by t = choose_held _ t

  off_by : So (fails (ready_in A set a labels)) → answer_in A set a labels ≡ did.Missing
  unfolding answer_in
  off_by f = choose_failed _ _ f

  was_idle : answer_in A set a labels ≡ did.Unchanged → So (ready_in A set a labels) × So (same_rows labels (stepped_in A set a labels))
  unfolding told
  was_idle e = ⊎_elim
      (λ t. (t, ⊎_elim (λ u. u) (λ f. let k = sym (told_by t ∙ choose_failed _ _ f) ∙ e in cc) (holds_or (same_rows labels (stepped_in A set a labels)))))
      (λ f. let k = sym (off_by f) ∙ e in (cc, cc))
      (holds_or (ready_in A set a labels))

  was_changed : {next : ℕ} → answer_in A set a labels ≡ did.Changed next
      → So (ready_in A set a labels) × So (fails (same_rows labels (stepped_in A set a labels))) × (next ≡ course_in set (stepped_in A set a labels))
  unfolding told
  was_changed {next} e = ⊎_elim
      (λ t. ⊎_elim
      (λ u. let k = sym (told_by t ∙ choose_held _ u) ∙ e in (cc, cc, cc))
      (λ f. let k = sym (told_by t ∙ choose_failed _ _ f) ∙ e in (t, f, cc))
      (holds_or (same_rows labels (stepped_in A set a labels))))
      (λ f. let k = sym (off_by f) ∙ e in (cc, cc, cc))
      (holds_or (ready_in A set a labels))

  was_off : answer_in A set a labels ≡ did.Missing → So (fails (ready_in A set a labels))
  unfolding told
  was_off e = ⊎_elim
      (λ t. ⊎_elim
      (λ u. let k = sym (told_by t ∙ choose_held _ u) ∙ e in cc)
      (λ f. let k = sym (told_by t ∙ choose_failed _ _ f) ∙ e in cc)
      (holds_or (same_rows labels (stepped_in A set a labels))))
      (λ f. f)
      (holds_or (ready_in A set a labels))

module _ {A : Actions} {set : ℕ} {list labels₀ : List ℕ} where
  pub step_none : {course : ℕ} → length labels₀ ≡ row_length → course ≡ course_in set labels₀ → Stepping A set list labels₀ labels₀ 0 course 0
  unfolding labels_at idle_at
  step_none long e =
      record { inside = omega arith; long = long; are = refl; had = λ k h. absurd (omega arith); course_is = e; idle_is = refl; few = omega arith }

  module _ {labels : List ℕ} {i course idle : ℕ} (g : Stepping A set list labels₀ labels i course idle) where
    stop_at : (i < length list → So (fails (ready_at A set list labels₀ i))) → i ≡ first_lack A set list labels₀
    unfolding first_lack
    stop_at at = first_unique g.inside (λ k h t. fails_at t (g.had k h)) at

    pub step_done : length list ≤ i → Stopped A set list labels₀ labels i idle
    step_done h = (stop_at (λ l. absurd (omega arith)), g.idle_is, g.are)

    -- one step more, and what it answers
    module _ {a : ℕ} {r : Stepped} {labels' : List ℕ} (h : i < length list) (e : a ≡ get_or list i 0)
        (made : (r ≡ answer_in A set a labels) × (labels' ≡ choose (ready_in A set a labels) (stepped_in A set a labels) labels)) where
      -- it was made
      next_at : labels_at A set list labels₀ (i + 1) ≡ stepped_in A set a labels
      unfolding labels_at
      next_at = ap (labels_at A set list labels₀) (add-one i) ∙ sym (ap₂ (stepped_in A set) e g.are)

      made_at : So (ready_in A set a labels) → labels' ≡ stepped_in A set a labels
      made_at t = made.1 ∙ choose_held _ t

      had_more : So (ready_in A set a labels) → (k : ℕ) → k < i + 1 → So (ready_at A set list labels₀ k)
      unfolding ready_at
      had_more t k l = below_suc (sym (ap₂ (ready_in A set) e g.are) ∙ t) g.had (omega arith)

      stepped_long : length (stepped_in A set a labels) ≡ row_length
      unfolding stepped_in applied_in
      stepped_long = length_list_over row_length _

      idle_next : idle_at A set list labels₀ (i + 1) ≡ idle + keep (same_rows labels (stepped_in A set a labels)) 1
      unfolding idle_at labels_at
      idle_next =
          ap (idle_at A set list labels₀) (add-one i)
          ∙ sym (ap₂ (λ (x y : ℕ). x + y) g.idle_is
          (ap₂ (λ (l : List ℕ) (b : ℕ). keep (same_rows l (stepped_in A set b l)) 1) g.are e))

      pub step_idle : r ≡ did.Unchanged → Stepping A set list labels₀ labels' (i + 1) course (idle + 1)
      step_idle u =
          let (t, k) = was_idle A set a labels (sym made.0 ∙ u) in
          let same : labels' ≡ labels = made_at t ∙ sym (rows_same g.long stepped_long k) in
          record {
            inside = omega arith;
            long = ap length same ∙ g.long;
            are = made_at t ∙ sym next_at;
            had = had_more t;
            course_is = g.course_is ∙ ap (course_in set) (sym same);
            idle_is = sym (idle_next ∙ ap (λ (x : ℕ). idle + x) (keep_held 1 k));
            few = omega (arith, g.few);
          }

      pub step_changed : {next : ℕ} → r ≡ did.Changed next → Stepping A set list labels₀ labels' (i + 1) next idle
      step_changed u =
          let (t, k, n) = was_changed A set a labels (sym made.0 ∙ u) in
          record {
            inside = omega arith;
            long = ap length (made_at t) ∙ stepped_long;
            are = made_at t ∙ sym next_at;
            had = had_more t;
            course_is = n ∙ ap (course_in set) (sym (made_at t));
            idle_is = sym (idle_next ∙ ap (λ (x : ℕ). idle + x) (keep_failed _ 1 k) ∙ add-zero idle);
            few = omega (arith, g.few);
          }

      pub step_off : r ≡ did.Missing → Stopped A set list labels₀ labels' i idle
      unfolding ready_at
      step_off u =
          let f = was_off A set a labels (sym made.0 ∙ u) in
          (stop_at (λ l. sym (ap fails (ap₂ (ready_in A set) e g.are)) ∙ f), g.idle_is, made.1 ∙ choose_failed _ _ f ∙ g.are)

-- ---- the run of a file, from its start states

module _ {file : List ℕ} {c : Counts} {set : ℕ} {list out : List ℕ} (checked : Checked file c set list out) {labels₀ labels : List ℕ} {i idle : ℕ}
    (start : labels₀ ≡ list_over row_length (start_label c.states (start_of file c))) (walked : Stopped (actions_of file c) set list labels₀ labels i idle) where
  stopped : i ≡ first_lack (actions_of file c) set list (list_over row_length (start_label c.states (start_of file c)))
  stopped = walked.0 ∙ ap (first_lack (actions_of file c) set list) start

  pub effects_off : i < length list → end_rule file c set list ≡ refused 12 i
  unfolding end_rule ran_verdict actions_of
  effects_off h = ap ran_verdict (fire_off (narrow_of file c checked.taken) checked.some.inside list checked.known stopped h)

  pub effects_done : length list ≤ i → end_rule file c set list ≡ accepted (list_over c.states (set_in labels))
  unfolding end_rule ran_verdict actions_of
  effects_done h =
      ap ran_verdict (fire_done (narrow_of file c checked.taken) checked.some.inside list checked.known stopped h)
      ∙ ap (λ (l : List ℕ). accepted (list_over c.states (set_in l)))
      (sym (walked.2 ∙ ap (λ (l : List ℕ). labels_at (actions_of file c) set list l i) start))

  pub effects_idle : length list ≤ i → idle ≡ idle_steps file c set list
  unfolding actions_of first_lack
  effects_idle h =
      walked.1 ∙ ap (λ (l : List ℕ). idle_at (actions_of file c) set list l i) start
      ∙ idle_done (narrow_of file c checked.taken) checked.some.inside list checked.known
      (subst (λ (x : ℕ). x ≤ length list) (sym stopped) (first_le (length list) _)) h
