-- Version 1: the word of what some state of the set lacks and some state of it has, and what it tells of a step.
-- Assumes nothing.
use Prim.Native.Nat.{ℕ, ◌+◌, ◌-◌, ◌/◌, ◌%◌, ◌^◌, ◌≤◌, ◌<◌}
use mathlib.Core.Path.{◌≡◌, refl, sym, ap, ap₂, subst, ◌∙◌}
use mathlib.Core.Bool.{Bool, true, false, So}
use mathlib.Core.Logic.{⊎_elim, by_cases}
use mathlib.Core.List.{List}
use native.Mathlib.Decide.{dec_lt}
use native.Mathlib.Nat.{mod-lt}
use native.Mathlib.Omega.{arith}
use lib.Count.{count_trailing_zeros}
use lib.ListN.{length, get_or}
use lib.Pow.{pow_pos}
use Rattle.rules.specs.Test.{◌and◌, ◌or◌, fails, same, choose}
use Rattle.rules.specs.Word.{bit, common, without, first}
use Rattle.rules.specs.Over.{keep, join_of, meet_of}
use Rattle.rules.specs.Lists.{list_over}
use Rattle.rules.specs.Domain.{Actions, Plain}
use Rattle.rules.specs.Run.{ready, after, stepped, idle}
use Rattle.rules.proofs.Tests.{test_eq, holds_or, fails_of, fails_at, and_of, and_left, and_right, or_left, or_right, or_at, implies_of, implies_at}
use Rattle.rules.proofs.Tests.{below_of, same_of, same_at, choose_held}
use Rattle.rules.proofs.Overs.{all_of_lem, all_at, any_of, any_at, join_over_lt, join_over_eq, keep_lt}
use Rattle.rules.proofs.Words.{bit_common, bit_union, bit_without, bit_first, bit_below, bit_shift, bit_rest, ext, no_bits, no_bit_zero, within_of, within_at}
use Rattle.rules.proofs.Words.{common_lt, union_lt, without_lt, first_lt}
use Rattle.rules.proofs.Members.{bit_join_of, meet_of_at, meet_of_of}
use Rattle.rules.proofs.Plains.{plain_after}
use Rattle.rules.proofs.Layers.{length_list_over, get_d_list_over, list_over_eq}
use Rattle.words.specs.Width.{prop_width, state_width, word_width}
use Rattle.words.proofs.MemberLoops.{lowest_in, lowest_lt}
use Rattle.run.specs.Course.{Some, pack, literals, course, came, leaves, brings, leaves_of, brings_of, further, sets_of}
use Rattle.run.proofs.Packs.{cut_bit, pack_lt, pack_low, pack_high, halves, leaves_low, leaves_high, brings_lt, brings_low, brings_high}

-- ---- bits

module _ (w x p : ℕ) (h : p < prop_width) where
  pub bit_came : bit p (came w x) ≡ ((bit p x and bit (prop_width + p) w) or fails (bit p w))
  unfolding came
  bit_came =
      bit_union p (common x (w / 2 ^ prop_width)) (first prop_width - w % 2 ^ prop_width)
      ∙ ap₂ (λ (a b : Bool). a or b)
      (bit_common p x (w / 2 ^ prop_width) ∙ ap (λ (b : Bool). bit p x and b) (bit_shift w prop_width p))
      (bit_rest p prop_width h (mod-lt w (pow_pos prop_width)) ∙ ap fails (cut_bit w prop_width p h))

pub came_lt : (w : ℕ) {x : ℕ} → x < 2 ^ prop_width → came w x < 2 ^ prop_width
unfolding came
came_lt w {x} l = union_lt prop_width (common_lt prop_width (w / 2 ^ prop_width) l) (omega arith)

literals_lt : {x : ℕ} → x < 2 ^ prop_width → literals x < 2 ^ word_width
unfolding literals
literals_lt {x} l = pack_lt (omega arith) l

module _ {x : ℕ} (l : x < 2 ^ prop_width) (p : ℕ) where
  pub literal_low : p < prop_width → bit p (literals x) ≡ fails (bit p x)
  unfolding literals
  literal_low h = pack_low (first prop_width - x) x p (omega arith) h ∙ bit_rest p prop_width h l

  pub literal_high : bit (prop_width + p) (literals x) ≡ bit p x
  unfolding literals
  literal_high = pack_high (first prop_width - x) x p (omega arith)

bit_further : (q leave bring w : ℕ) → bit q (further leave bring w) ≡ ((bit q w and bit q leave) or bit q bring)
unfolding further
bit_further q leave bring w = bit_union q (common w leave) bring ∙ ap (λ (b : Bool). b or bit q bring) (bit_common q w leave)

pub further_lt : (leave bring w : ℕ) → w < 2 ^ word_width → bring < 2 ^ word_width → further leave bring w < 2 ^ word_width
unfolding further
further_lt leave bring w h l = union_lt word_width (common_lt word_width leave h) l

-- ---- one action, in a state that has x

-- what it lacks and has after deletes and adds
low_bits : (x d a : Bool) → fails ((x and fails d) or a) ≡ ((fails x and fails a) or (d and fails a))
unfolding ◌and◌ ◌or◌ fails
low_bits false false false = refl
low_bits false false true = refl
low_bits false true false = refl
low_bits false true true = refl
low_bits true false false = refl
low_bits true false true = refl
low_bits true true false = refl
low_bits true true true = refl

high_bits : (x d a : Bool) → ((x and fails d) or a) ≡ ((x and fails (d and fails a)) or a)
unfolding ◌and◌ ◌or◌ fails
high_bits false false false = refl
high_bits false false true = refl
high_bits false true false = refl
high_bits false true true = refl
high_bits true false false = refl
high_bits true false true = refl
high_bits true true false = refl
high_bits true true true = refl

-- what came of a state, one step more: whether it started with the proposition, whether some state has it and some lacks it, the delete and the add
came_bits : (x s l d a : Bool) → ((x and ((s and fails (d and fails a)) or a)) or fails ((l and fails a) or (d and fails a)))
    ≡ ((((x and s) or fails l) and fails d) or a)
unfolding ◌and◌ ◌or◌ fails
came_bits false false false false false = refl
came_bits false false false false true = refl
came_bits false false false true false = refl
came_bits false false false true true = refl
came_bits false false true false false = refl
came_bits false false true false true = refl
came_bits false false true true false = refl
came_bits false false true true true = refl
came_bits false true false false false = refl
came_bits false true false false true = refl
came_bits false true false true false = refl
came_bits false true false true true = refl
came_bits false true true false false = refl
came_bits false true true false true = refl
came_bits false true true true false = refl
came_bits false true true true true = refl
came_bits true false false false false = refl
came_bits true false false false true = refl
came_bits true false false true false = refl
came_bits true false false true true = refl
came_bits true false true false false = refl
came_bits true false true false true = refl
came_bits true false true true false = refl
came_bits true false true true true = refl
came_bits true true false false false = refl
came_bits true true false false true = refl
came_bits true true false true false = refl
came_bits true true false true true = refl
came_bits true true true false false = refl
came_bits true true true false true = refl
came_bits true true true true false = refl
came_bits true true true true true = refl

-- what a step brings it leaves
left_low : (d a : Bool) → So (d and fails a) → So (fails a)
left_low d a t = and_right d t

left_high : (d a : Bool) → So a → So (fails (d and fails a))
left_high d a t = fails_of (λ u. fails_at (and_right d u) t)

-- the words of a file are those of sets
pub record Sets (A : Actions) : Type 0 where
  pub pre : (a : ℕ) → a < A.count → A.pre a < 2 ^ prop_width
  pub add : (a : ℕ) → a < A.count → A.add a < 2 ^ prop_width
  pub del : (a : ℕ) → a < A.count → A.del a < 2 ^ prop_width

module _ {A : Actions} (plain : Plain A) (sets : Sets A) (a : ℕ) (k : a < A.count) where
  del_small : A.del a < 2 ^ prop_width
  del_small = sets.del a k

  add_small : A.add a < 2 ^ prop_width
  add_small = sets.add a k

  after_lt : {x : ℕ} → x < 2 ^ prop_width → after A a x < 2 ^ prop_width
  after_lt {x} l =
      subst (λ (y : ℕ). y < 2 ^ prop_width) (sym (plain_after plain x k)) (union_lt prop_width (without_lt prop_width (A.del a) l) add_small)

  bit_then : (p x : ℕ) → bit p (after A a x) ≡ ((bit p x and fails (bit p (A.del a))) or bit p (A.add a))
  bit_then p x =
      ap (bit p) (plain_after plain x k) ∙ bit_union p (without x (A.del a)) (A.add a)
      ∙ ap (λ (b : Bool). b or bit p (A.add a)) (bit_without p x (A.del a))

  pub brings_small : brings_of A a < 2 ^ word_width
  unfolding brings_of
  brings_small = brings_lt del_small add_small

  further_low : (w p : ℕ) → p < prop_width
      → bit p (further (leaves_of A a) (brings_of A a) w)
      ≡ ((bit p w and fails (bit p (A.add a))) or (bit p (A.del a) and fails (bit p (A.add a))))
  unfolding leaves_of brings_of
  further_low w p h =
      bit_further p (leaves_of A a) (brings_of A a) w
      ∙ ap₂ (λ (u v : Bool). (bit p w and u) or v) (leaves_low (A.del a) (A.add a) p del_small add_small h) (brings_low (A.del a) (A.add a) p del_small h)

  further_high : (w p : ℕ) → p < prop_width
      → bit (prop_width + p) (further (leaves_of A a) (brings_of A a) w)
      ≡ ((bit (prop_width + p) w and fails (bit p (A.del a) and fails (bit p (A.add a)))) or bit p (A.add a))
  unfolding leaves_of brings_of
  further_high w p h =
      bit_further (prop_width + p) (leaves_of A a) (brings_of A a) w
      ∙ ap₂ (λ (u v : Bool). (bit (prop_width + p) w and u) or v) (leaves_high (A.del a) (A.add a) p del_small add_small h)
      (brings_high (A.del a) (A.add a) p del_small)

  -- the literals of a state after the step
  literals_after : {x : ℕ} → x < 2 ^ prop_width → literals (after A a x) ≡ further (leaves_of A a) (brings_of A a) (literals x)
  literals_after {x} l = halves (literals_lt (after_lt l)) (further_lt (leaves_of A a) (brings_of A a) (literals x) (literals_lt l) brings_small)
      (λ p h. literal_low (after_lt l) p h ∙ ap fails (bit_then p x) ∙ low_bits (bit p x) (bit p (A.del a)) (bit p (A.add a))
      ∙ sym (further_low (literals x) p h
      ∙ ap (λ (b : Bool). (b and fails (bit p (A.add a))) or (bit p (A.del a) and fails (bit p (A.add a)))) (literal_low l p h)))
      (λ p h. literal_high (after_lt l) p ∙ bit_then p x ∙ high_bits (bit p x) (bit p (A.del a)) (bit p (A.add a))
      ∙ sym (further_high (literals x) p h
      ∙ ap (λ (b : Bool). (b and fails (bit p (A.del a) and fails (bit p (A.add a)))) or bit p (A.add a)) (literal_high l p)))

  -- what came of a state, one step more
  came_after : (w : ℕ) {x : ℕ} → x < 2 ^ prop_width → after A a (came w x) ≡ came (further (leaves_of A a) (brings_of A a) w) x
  came_after w {x} l = ext (after_lt (came_lt w l)) (came_lt (further (leaves_of A a) (brings_of A a) w) l) (λ p h. sym (
      bit_came (further (leaves_of A a) (brings_of A a) w) x p h
      ∙ ap₂ (λ (u v : Bool). (bit p x and u) or fails v) (further_high w p h) (further_low w p h)
      ∙ came_bits (bit p x) (bit (prop_width + p) w) (bit p w) (bit p (A.del a)) (bit p (A.add a))
      ∙ sym (bit_then p (came w x)
      ∙ ap (λ (b : Bool). (b and fails (bit p (A.del a))) or bit p (A.add a)) (bit_came w x p h))))

  -- a word of which a step leaves all keeps what it brings
  brought_left : (q : ℕ) → q < word_width → So (bit q (brings_of A a)) → So (bit q (leaves_of A a))
  unfolding leaves_of brings_of
  brought_left q h t = by_cases (dec_lt q prop_width)
      (λ l. leaves_low (A.del a) (A.add a) q del_small add_small l ∙ left_low (bit q (A.del a)) _ (sym (brings_low (A.del a) (A.add a) q del_small l) ∙ t))
      (λ l. let e : prop_width + (q - prop_width) ≡ q = omega arith in
      subst (λ (r : ℕ). So (bit r (leaves (A.del a) (A.add a)))) e (leaves_high (A.del a) (A.add a) (q - prop_width) del_small add_small (omega arith)
      ∙ left_high (bit (q - prop_width) (A.del a)) _ (sym (brings_high (A.del a) (A.add a) (q - prop_width) del_small)
      ∙ subst (λ (r : ℕ). So (bit r (brings (A.del a) (A.add a)))) (sym e) t)))

  -- a state is as it was exactly when all its literals are left
  kept_after : {x : ℕ} → x < 2 ^ prop_width → after A a x ≡ x → (q : ℕ) → So (bit q (literals x)) → So (bit q (leaves_of A a))
  kept_after {x} l e q t = ⊎_elim
      (λ u. and_right (bit q (literals x)) u)
      (λ u. brought_left q (bit_below (literals_lt l) t) u)
      (or_at (sym (bit_further q (leaves_of A a) (brings_of A a) (literals x)) ∙ ap (bit q) (sym (literals_after l) ∙ ap literals e) ∙ t))

  left_after : {x : ℕ} → x < 2 ^ prop_width → ((q : ℕ) → So (bit q (literals x)) → So (bit q (leaves_of A a))) → after A a x ≡ x
  left_after {x} l each = ext (after_lt l) l (λ p h. test_eq
      (λ t. ⊎_elim (λ u. u) (λ f. absurd (fails_at (sym (literal_low (after_lt l) p h) ∙ still p (literal_low l p h ∙ f)) t)) (holds_or (bit p x)))
      (λ t. sym (literal_high (after_lt l) p) ∙ still (prop_width + p) (literal_high l p ∙ t)))
    where
      still : (q : ℕ) → So (bit q (literals x)) → So (bit q (literals (after A a x)))
      still q t =
          ap (bit q) (literals_after l) ∙ bit_further q (leaves_of A a) (brings_of A a) (literals x) ∙ or_left _ (and_of t (each q t))

-- ---- all states of the set

module _ (n set : ℕ) (sets : ℕ → ℕ) where
  pub course_of : (q s : ℕ) → s < n → So (bit s set) → So (bit q (literals (sets s))) → So (bit q (course n set sets))
  unfolding course
  course_of q s h t u = bit_join_of q n set (λ s. literals (sets s)) ∙ any_of _ h (and_of t u)

  pub course_at_lem : (q : ℕ) → So (bit q (course n set sets)) → (s : ℕ) × (s < n) × So (bit s set) × So (bit q (literals (sets s)))
  unfolding course
  course_at_lem q t =
      let (s, h, u) = any_at (sym (bit_join_of q n set (λ s. literals (sets s))) ∙ t) in
      (s, h, and_left _ u, and_right _ u)

  module _ (narrow : (s : ℕ) → s < n → sets s < 2 ^ prop_width) where
    pub course_lt : course n set sets < 2 ^ word_width
    unfolding course join_of
    course_lt = join_over_lt word_width _ (λ s h. keep_lt word_width (λ _. literals_lt (narrow s h)))

pub course_eq : (n set : ℕ) {f g : ℕ → ℕ} → ((s : ℕ) → s < n → f s ≡ g s) → course n set f ≡ course n set g
unfolding course join_of
course_eq n set h = join_over_eq n (λ s l. ap (λ (x : ℕ). keep (bit s set) (literals x)) (h s l))

join_lt : (n set : ℕ) (f : ℕ → ℕ) → ((s : ℕ) → s < n → f s < 2 ^ prop_width) → join_of n set f < 2 ^ prop_width
unfolding join_of
join_lt n set f narrow = join_over_lt prop_width _ (λ s h. keep_lt prop_width (λ _. narrow s h))

-- at the start: what not all have, and what some have
pub course_start : (n set : ℕ) (start : ℕ → ℕ) → ((s : ℕ) → s < n → start s < 2 ^ prop_width)
    → pack (without (first prop_width) (meet_of n set start (first prop_width))) (join_of n set start) ≡ course n set start
course_start n set start narrow = halves (pack_lt low_lt high_lt) (course_lt n set start narrow)
    (λ p h. pack_low low high p low_lt h ∙ bit_without p (first prop_width) (meet_of n set start (first prop_width)) ∙ test_eq
    (λ t. lacking p h (and_right _ t))
    (λ t. and_of (bit_first p prop_width ∙ below_of h) (fails_of (λ u.
    let (s, l, i, m) = course_at_lem n set start p t in
    fails_at (sym (literal_low (narrow s l) p h) ∙ m) ((meet_of_at p set (first prop_width) start u).1 s l i)))))
    (λ p h. pack_high low high p low_lt ∙ bit_join_of p n set start ∙ test_eq
    (λ t. let (s, l, u) = any_at t in course_of n set start (prop_width + p) s l (and_left _ u) (literal_high (narrow s l) p ∙ and_right _ u))
    (λ t. let (s, l, i, m) = course_at_lem n set start (prop_width + p) t in any_of _ l (and_of i (sym (literal_high (narrow s l) p) ∙ m))))
  where
    low : ℕ
    low = without (first prop_width) (meet_of n set start (first prop_width))

    high : ℕ
    high = join_of n set start

    low_lt : low < 2 ^ prop_width
    low_lt = without_lt prop_width _ (first_lt prop_width)

    high_lt : high < 2 ^ prop_width
    high_lt = join_lt n set start narrow

    -- some state of the set lacks it, if not all have it
    lacking : (p : ℕ) → p < prop_width → So (fails (bit p (meet_of n set start (first prop_width)))) → So (bit p (course n set start))
    lacking p h f = ⊎_elim
        (λ t. t)
        (λ t. absurd (fails_at f (meet_of_of p set (first prop_width) start (bit_first p prop_width ∙ below_of h) (λ s l i. ⊎_elim
        (λ u. u)
        (λ u. absurd (fails_at t (course_of n set start p s l i (literal_low (narrow s l) p h ∙ u))))
        (holds_or (bit p (start s)))))))
        (holds_or (bit p (course n set start)))

-- ---- a step in all states of the set, whose sets are xs

module _ {A : Actions} (plain : Plain A) (sets : Sets A) {n set : ℕ} (few : n ≤ state_width) (some : Some n set) (a : ℕ) (k : a < A.count) (xs : List ℕ)
    (narrow : (s : ℕ) → s < n → get_or xs s 0 < 2 ^ prop_width) where
  abbrev at : ℕ → ℕ
  at s = get_or xs s 0

  word_lt : course n set at < 2 ^ word_width
  word_lt = course_lt n set at narrow

  -- 'precondition missing': some state of the set lacks what is needed
  pub ready_is : ready A n set a xs ≡ same (common (course n set at) (A.pre a)) 0
  unfolding ready
  ready_is = test_eq
      (λ t. same_of (no_bits {n = word_width} (common_lt word_width (A.pre a) word_lt) (λ q h u.
      let b : So (bit q (course n set at) and bit q (A.pre a)) = sym (bit_common q (course n set at) (A.pre a)) ∙ u in
      let (s, l, i, m) = course_at_lem n set at q (and_left _ b) in
      let c : q < prop_width = bit_below (sets.pre a k) (and_right _ b) in
      fails_at (sym (literal_low (narrow s l) q c) ∙ m) (within_at (A.pre a) (at s) q (implies_at (all_at _ t l) i) (and_right _ b)))))
      (λ t. all_of_lem (λ s l. implies_of (λ i. within_of {n = prop_width} (at s) (sets.pre a k) (λ p h m. ⊎_elim
      (λ u. u)
      (λ f. absurd (no_bit_zero p (sym (ap (bit p) (same_at t)) ∙ bit_common p (course n set at) (A.pre a)
      ∙ and_of (course_of n set at p s l i (literal_low (narrow s l) p h ∙ f)) m)))
      (holds_or (bit p (at s)))))))

  -- 'changed none': all of the word is left
  pub idle_is : idle A n set a xs ≡ same (common (course n set at) (leaves_of A a)) (course n set at)
  unfolding idle
  idle_is = test_eq
      (λ t. same_of (ext {n = word_width} (common_lt word_width (leaves_of A a) word_lt) word_lt (λ q h.
      bit_common q (course n set at) (leaves_of A a) ∙ test_eq (λ u. and_left _ u) (λ u.
      let (s, l, i, m) = course_at_lem n set at q u in
      and_of u (kept_after plain sets a k (narrow s l) (same_at (implies_at (all_at _ t l) i)) q m)))))
      (λ t. all_of_lem (λ s l. implies_of (λ i. same_of (left_after plain sets a k (narrow s l) (λ q m. and_right (bit q (course n set at))
      (sym (bit_common q (course n set at) (leaves_of A a)) ∙ ap (bit q) (same_at t) ∙ course_of n set at q s l i m))))))

  then : (s : ℕ) → s < n → So (bit s set) → get_or (stepped A n set a xs) s 0 ≡ after A a (at s)
  unfolding stepped
  then s l i = get_d_list_over _ l ∙ choose_held _ i

  module _ (narrow' : (s : ℕ) → s < n → get_or (stepped A n set a xs) s 0 < 2 ^ prop_width) where
    abbrev next : ℕ → ℕ
    next s = get_or (stepped A n set a xs) s 0

    -- a literal of a state of the set after the step
    moved : (q s : ℕ) → s < n → So (bit s set)
        → bit q (literals (next s)) ≡ ((bit q (literals (at s)) and bit q (leaves_of A a)) or bit q (brings_of A a))
    moved q s l i =
        ap (λ (x : ℕ). bit q (literals x)) (then s l i) ∙ ap (bit q) (literals_after plain sets a k (narrow s l))
        ∙ bit_further q (leaves_of A a) (brings_of A a) (literals (at s))

    pub course_step : course n set next ≡ further (leaves_of A a) (brings_of A a) (course n set at)
    course_step = ext {n = word_width} (course_lt n set next narrow')
        (further_lt (leaves_of A a) (brings_of A a) (course n set at) word_lt (brings_small plain sets a k)) (λ q h. sym (
        bit_further q (leaves_of A a) (brings_of A a) (course n set at) ∙ test_eq
        (λ t. ⊎_elim
        (λ u. let (s, l, i, m) = course_at_lem n set at q (and_left _ u) in
        course_of n set next q s l i (moved q s l i ∙ or_left _ (and_of m (and_right _ u))))
        (λ u. let s = count_trailing_zeros word_width set in
        let l = lowest_lt n set few some.inside some.some in
        let i = lowest_in n set few some.inside some.some in
        course_of n set next q s l i (moved q s l i ∙ or_right _ u))
        (or_at t))
        (λ t. let (s, l, i, m) = course_at_lem n set next q t in
        ⊎_elim
        (λ u. or_left _ (and_of (course_of n set at q s l i (and_left _ u)) (and_right _ u)))
        (λ u. or_right _ u)
        (or_at (sym (moved q s l i) ∙ m)))))

-- ---- the sets of all states

module _ (n : ℕ) (start : ℕ → ℕ) (set : ℕ) (narrow : (s : ℕ) → s < n → start s < 2 ^ prop_width) where
  pub sets_length : (w : ℕ) → length (sets_of n start set w) ≡ n
  unfolding sets_of
  sets_length w = length_list_over n _

  pub sets_narrow : (w s : ℕ) → s < n → get_or (sets_of n start set w) s 0 < 2 ^ prop_width
  unfolding sets_of choose
  sets_narrow w s l = subst (λ (x : ℕ). x < 2 ^ prop_width) (sym (get_d_list_over _ l)) (go (bit s set))
    where
      go : (b : Bool) → choose b (came w (start s)) (start s) < 2 ^ prop_width
      go true = came_lt w (narrow s l)
      go false = narrow s l

  -- before the first step
  came_new : (s : ℕ) → s < n → So (bit s set) → came (course n set start) (start s) ≡ start s
  came_new s l i = ext (came_lt (course n set start) (narrow s l)) (narrow s l) (λ p h. bit_came (course n set start) (start s) p h ∙ test_eq
      (λ t. ⊎_elim (λ u. and_left _ u) (λ u. ⊎_elim (λ x. x) (λ x. absurd (fails_at u (course_of n set start p s l i (literal_low (narrow s l) p h ∙ x))))
      (holds_or (bit p (start s)))) (or_at t))
      (λ t. or_left _ (and_of t (course_of n set start (prop_width + p) s l i (literal_high (narrow s l) p ∙ t)))))

  pub sets_new : list_over n start ≡ sets_of n start set (course n set start)
  unfolding sets_of choose
  sets_new = list_over_eq (λ s l. go s l (bit s set) refl)
    where
      go : (s : ℕ) → s < n → (b : Bool) → bit s set ≡ b → start s ≡ choose b (came (course n set start) (start s)) (start s)
      go s l true t = sym (came_new s l t)
      go s l false t = refl

  pub sets_further : {A : Actions} → Plain A → Sets A → (a w : ℕ) → a < A.count
      → stepped A n set a (sets_of n start set w) ≡ sets_of n start set (further (leaves_of A a) (brings_of A a) w)
  unfolding stepped sets_of choose
  sets_further {A} plain sets a w k = list_over_eq (λ s l.
      ap (λ (x : ℕ). choose (bit s set) (after A a x) x) (get_d_list_over _ l) ∙ go (start s) (narrow s l) (bit s set))
    where
      go : (x : ℕ) → x < 2 ^ prop_width → (b : Bool)
          → choose b (after A a (choose b (came w x) x)) (choose b (came w x) x)
          ≡ choose b (came (further (leaves_of A a) (brings_of A a) w) x) x
      go x l true = came_after plain sets a k w l
      go x l false = refl
