-- Tests of the members of a set: one member after the other, every two of them, and a goal's test in these terms.
-- Assumes nothing.
use mathlib.Core.Path.{◌≡◌, refl, sym, ap, ap₂, subst, ◌∙◌}
use mathlib.Core.Bool.{Bool, true, false, So}
use mathlib.Core.List.{List}
use mathlib.Core.Logic.{⊎_elim, by_cases}
use Prim.Native.Nat.{ℕ, suc, ◌^◌, ◌≤◌, ◌<◌}
use native.Mathlib.Decide.{dec_le}
use native.Mathlib.Nat.{lt_of_lt_of_le}
use native.Mathlib.Omega.{arith}
use lib.Bits.{and_zero_r, and_comm}
use lib.Count.{count_trailing_zeros}
use lib.ListN.{get_or}
use lib.Pow.{pow_mono}
use Rattle.rules.specs.Test.{◌and◌, ◌implies◌, fails, same, choose}
use Rattle.rules.specs.Word.{bit, common, without, single, first, within, meets}
use Rattle.rules.specs.Over.{all_below}
use Rattle.rules.specs.Layer.{size, pair_at, label_in, mutex_in, props_in}
use Rattle.rules.specs.Level.{goal_met, first_met}
use Rattle.rules.specs.declared.Shape.{Shape}
use Rattle.rules.proofs.Tests.{and_of, and_left, and_right, implies_of, implies_at, fails_of, fails_at, holds_or, test_eq, same_of, same_at, below_of, below_not, and_true}
use Rattle.rules.proofs.Words.{bit_common, bit_without, bit_single, bit_first, no_bit_zero, without_lt}
use Rattle.rules.proofs.Overs.{all_of_lem, all_at, all_eq}
use Rattle.rules.proofs.Firsts.{first_eq}
use Rattle.rules.proofs.Layers.{labels_in, size_pairs, pairs_sub}
use Rattle.rules.proofs.Members.{mutex_turn}
use Rattle.words.specs.Width.{word_width}
use Rattle.words.proofs.MemberLoops.{lowest_in, lowest_lt}
use Rattle.words.proofs.Lowest.{others_above}
use Rattle.words.proofs.Places.{pair_in, mutex_up, mutex_own}
use Rattle.level.specs.Meets.{all_of, label_meets, pair_meets, Above, Found, shown_at, Judged}
use Rattle.words.proofs.Compares.{xor_same}
use Rattle.level.proofs.Searches.{not_so}

-- ---- what the test of all members says, both ways

module _ (n set : ℕ) (f : ℕ → Bool) where
  members_of : ((i : ℕ) → i < n → So (bit i set) → So (f i)) → So (all_of n set f)
  unfolding all_of
  members_of h = all_of_lem (λ i l. implies_of (h i l))

  members_at : So (all_of n set f) → (i : ℕ) → i < n → So (bit i set) → So (f i)
  unfolding all_of
  members_at t i l m = implies_at (all_at _ t l) m

-- the set without q, and q
part_in : (set q i : ℕ) → So (bit i (without set (single q))) → So (bit i set)
part_in set q i t = and_left _ (sym (bit_without i set (single q)) ∙ t)

part_of : (set q i : ℕ) → So (bit i set) → So (fails (same i q)) → So (bit i (without set (single q)))
part_of set q i t e = bit_without i set (single q) ∙ and_of t (ap fails (bit_single i q) ∙ e)

-- ---- one member after the other

none_left : (n : ℕ) (f : ℕ → Bool) → all_of n 0 f ≡ true
none_left n f = members_of n 0 f (λ i l m. absurd (no_bit_zero i m))

pick : (n set q : ℕ) (f : ℕ → Bool) → q < n → So (bit q set) → all_of n set f ≡ (f q and all_of n (without set (single q)) f)
pick n set q f l t = test_eq
    (λ u. and_of (members_at n set f u q l t) (members_of n (without set (single q)) f (λ i h m. members_at n set f u i h (part_in set q i m))))
    (λ u. members_of n set f (λ i h m. ⊎_elim
    (λ e. subst (λ (j : ℕ). So (f j)) (sym (same_at e)) (and_left _ u))
    (λ e. members_at n (without set (single q)) f (and_right _ u) i h (part_of set q i m e))
    (holds_or (same i q))))

-- the test of those that are left is that of all
pub record Left (f : ℕ → Bool) (n set₀ left : ℕ) : Type 0 where
  pub inside : left < 2 ^ n
  pub part : (i : ℕ) → So (bit i left) → So (bit i set₀)
  pub is : all_of n left f ≡ all_of n set₀ f

pub left_all : {f : ℕ → Bool} {n set : ℕ} → set < 2 ^ n → Left f n set set
left_all h = record { inside = h; part = λ i t. t; is = refl }

module _ {f : ℕ → Bool} {n set₀ left : ℕ} (m : Left f n set₀ left) (few : n ≤ word_width) (some : 0 < left) where
  next : all_of n set₀ f ≡ (f (count_trailing_zeros word_width left) and all_of n (without left (single (count_trailing_zeros word_width left))) f)
  next = sym m.is ∙ pick n left (count_trailing_zeros word_width left) f (lowest_lt n left few m.inside some) (lowest_in n left few m.inside some)

  -- what lies below all members lies below the next one
  pub left_above : (p : ℕ) → Above p set₀ → p < count_trailing_zeros word_width left
  left_above p above = above _ (m.part _ (lowest_in n left few m.inside some))

  pub left_less : {left' i : ℕ} → left' ≡ without left (single (count_trailing_zeros word_width left)) → i ≡ count_trailing_zeros word_width left → f i ≡ true
      → Left f n set₀ left'
  unfolding ◌and◌
  left_less {left'} l e t = record {
    inside = subst (λ (x : ℕ). x < 2 ^ n) (sym l) (without_lt n _ m.inside);
    part = λ i u. m.part i (part_in left (count_trailing_zeros word_width left) i (sym (ap (bit i) l) ∙ u));
    is = ap (λ (x : ℕ). all_of n x f) l
        ∙ sym (next ∙ ap (λ (b : Bool). b and all_of n (without left (single (count_trailing_zeros word_width left))) f) (ap f (sym e) ∙ t));
  }

  -- it is found where the test does not hold at it
  pub left_found : {i : ℕ} → i ≡ count_trailing_zeros word_width left → f i ≡ false → Found f n set₀ i
  left_found {i} e t = record {
    all = λ h. absurd (omega (arith, lowest_lt n left few m.inside some));
    one = λ h. subst (λ (x : ℕ). So (bit x set₀)) (sym e) (m.part _ (lowest_in n left few m.inside some));
    not = λ h. t;
  }

pub left_none : {f : ℕ → Bool} {n set₀ left : ℕ} → Left f n set₀ left → left ≤ 0 → Found f n set₀ n
left_none {f} {n} {set₀} {left} m h = record {
  all = λ g. let e : left ≡ 0 = omega arith in sym m.is ∙ ap (λ (x : ℕ). all_of n x f) e ∙ none_left n f;
  one = λ g. absurd (omega arith);
  not = λ g. absurd (omega arith);
}

-- ---- every two members

-- a test of two that is the same either way round, and holds of one with itself
pub record Mutual (f : ℕ → ℕ → Bool) : Type 0 where
  pub turn : (p q : ℕ) → f p q ≡ f q p
  pub own : (p : ℕ) → So (f p p)

abbrev pub pairs_of : ℕ → ℕ → (ℕ → ℕ → Bool) → Bool
pairs_of n set f = all_of n set (λ p. all_of n set (f p))

module _ (n set : ℕ) (f : ℕ → ℕ → Bool) where
  two_of : ((p q : ℕ) → p < n → q < n → So (bit p set) → So (bit q set) → So (f p q)) → So (pairs_of n set f)
  two_of h = members_of n set (λ p. all_of n set (f p)) (λ p l m. members_of n set (f p) (λ q k r. h p q l k m r))

  two_at : So (pairs_of n set f) → (p q : ℕ) → p < n → q < n → So (bit p set) → So (bit q set) → So (f p q)
  two_at t p q l k m r = members_at n set (f p) (members_at n set (λ p. all_of n set (f p)) t p l m) q k r

-- one member with the others, and the others by themselves
pick_two : (n set q : ℕ) (f : ℕ → ℕ → Bool) → Mutual f → q < n → So (bit q set)
    → pairs_of n set f ≡ (all_of n (without set (single q)) (f q) and pairs_of n (without set (single q)) f)
pick_two n set q f both l t = test_eq to from
  where
    to : So (pairs_of n set f) → So (all_of n (without set (single q)) (f q) and pairs_of n (without set (single q)) f)
    to u =
        and_of (members_of n (without set (single q)) (f q) (λ i h m. two_at n set f u q i l h t (part_in set q i m)))
        (two_of n (without set (single q)) f (λ i j h k m r. two_at n set f u i j h k (part_in set q i m) (part_in set q j r)))

    from : So (all_of n (without set (single q)) (f q) and pairs_of n (without set (single q)) f) → So (pairs_of n set f)
    from u = two_of n set f (λ i j h k m r. go i j h k m r)
      where
        row : (j : ℕ) → j < n → So (bit j set) → So (f q j)
        row j k r = ⊎_elim
            (λ e. subst (λ (x : ℕ). So (f q x)) (sym (same_at e)) (both.own q))
            (λ e. members_at n (without set (single q)) (f q) (and_left _ u) j k (part_of set q j r e))
            (holds_or (same j q))

        go : (i j : ℕ) → i < n → j < n → So (bit i set) → So (bit j set) → So (f i j)
        go i j h k m r = ⊎_elim
            (λ e. subst (λ (x : ℕ). So (f x j)) (sym (same_at e)) (row j k r))
            (λ e. ⊎_elim
            (λ g. both.turn i j ∙ subst (λ (x : ℕ). So (f x i)) (sym (same_at g)) (row i h m))
            (λ g. two_at n (without set (single q)) f (and_right _ u) i j h k (part_of set q i m e) (part_of set q j r g))
            (holds_or (same j q)))
            (holds_or (same i q))

pub record LeftTwo (f : ℕ → ℕ → Bool) (n set₀ left : ℕ) : Type 0 where
  pub inside : left < 2 ^ n
  pub part : (i : ℕ) → So (bit i left) → So (bit i set₀)
  pub is : pairs_of n left f ≡ pairs_of n set₀ f

pub two_all : {f : ℕ → ℕ → Bool} {n set : ℕ} → set < 2 ^ n → LeftTwo f n set set
two_all h = record { inside = h; part = λ i t. t; is = refl }

module _ {f : ℕ → ℕ → Bool} {n set₀ left left' : ℕ} (both : Mutual f) (m : LeftTwo f n set₀ left) (few : n ≤ word_width) (some : 0 < left)
    (l : left' ≡ without left (single (count_trailing_zeros word_width left))) where
  pub two_inside : left' < 2 ^ n
  two_inside = subst (λ (x : ℕ). x < 2 ^ n) (sym l) (without_lt n _ m.inside)

  pub two_part : (i : ℕ) → So (bit i left') → So (bit i set₀)
  two_part i t = m.part i (part_in left (count_trailing_zeros word_width left) i (sym (ap (bit i) l) ∙ t))

  next_two : pairs_of n set₀ f ≡ (all_of n left' (f (count_trailing_zeros word_width left)) and pairs_of n left' f)
  next_two =
      sym m.is
      ∙ pick_two n left (count_trailing_zeros word_width left) f both (lowest_lt n left few m.inside some) (lowest_in n left few m.inside some)
      ∙ ap (λ (x : ℕ). all_of n x (f (count_trailing_zeros word_width left)) and pairs_of n x f) (sym l)

  pub two_less : (p : ℕ) → p ≡ count_trailing_zeros word_width left → all_of n left' (f p) ≡ true → LeftTwo f n set₀ left'
  unfolding ◌and◌
  two_less p e t = record { inside = two_inside; part = two_part; is = sym (next_two ∙ ap (λ (b : Bool). b and pairs_of n left' f) (ap (λ (x : ℕ). all_of n left' (f x)) (sym e) ∙ t)) }

  -- the one and each of the others are members
  pub two_first : (p : ℕ) → p ≡ count_trailing_zeros word_width left → So (bit p set₀)
  two_first p e = subst (λ (x : ℕ). So (bit x set₀)) (sym e) (m.part _ (lowest_in n left few m.inside some))

  -- the others lie above it
  pub two_above : (p : ℕ) → p ≡ count_trailing_zeros word_width left → Above p left'
  two_above p e q t =
      subst (λ (x : ℕ). x < q) (sym e) (others_above word_width left q (lt_of_lt_of_le m.inside (pow_mono few)) (sym (ap (bit q) l) ∙ t))

pub two_none : {f : ℕ → ℕ → Bool} {n set₀ left : ℕ} → LeftTwo f n set₀ left → left ≤ 0 → true ≡ pairs_of n set₀ f
two_none {f} {n} {set₀} {left} m h =
    let e : left ≡ 0 = omega arith in
    sym (none_left n (λ p. all_of n 0 (f p))) ∙ ap (λ (x : ℕ). pairs_of n x f) (sym e) ∙ m.is

-- ---- a goal

module _ (n : ℕ) (l : List ℕ) (set : ℕ) where
  own_meets : (p : ℕ) → So (meets set (mutex_in n l p p)) → ⊥
  unfolding meets
  own_meets p t = fails_at t (same_of (ap (common set) (sym (mutex_own n l p p refl)) ∙ and_zero_r set))

  pub pairs_mutual : Mutual (pair_meets n l set)
  unfolding pair_meets
  pairs_mutual = record { turn = λ p q. ap (λ (x : ℕ). fails (meets set x)) (mutex_turn n l p q); own = λ p. fails_of (own_meets p) }

  -- the test of the rule, which goes over all propositions, is that of the goal's members
  pairs_members : (goal : ℕ) → pairs_of n goal (pair_meets n l set)
      ≡ all_below n (λ q. all_below q (λ p. (bit p goal and bit q goal) implies fails (meets set (mutex_in n l p q))))
  unfolding pair_meets
  pairs_members goal = test_eq (λ u. all_of_lem (λ q h. all_of_lem (λ p g. implies_of (λ m.
      two_at n goal (pair_meets n l set) u p q (omega arith) h (and_left _ m) (and_right _ m)))))
      (λ u. two_of n goal (pair_meets n l set) (λ p q h k m r. go u p q h k m r))
    where
      rising : So (all_below n (λ q. all_below q (λ p. (bit p goal and bit q goal) implies fails (meets set (mutex_in n l p q)))))
          → (p q : ℕ) → p < q → q < n → So (bit p goal) → So (bit q goal) → So (pair_meets n l set p q)
      rising u p q h k m r = implies_at (all_at _ (all_at _ u k) h) (and_of m r)

      go : So (all_below n (λ q. all_below q (λ p. (bit p goal and bit q goal) implies fails (meets set (mutex_in n l p q)))))
          → (p q : ℕ) → p < n → q < n → So (bit p goal) → So (bit q goal) → So (pair_meets n l set p q)
      go u p q h k m r = by_cases (dec_le p q)
          (λ g. by_cases (dec_le q p)
          (λ e. let same : p ≡ q = omega arith in subst (λ (x : ℕ). So (pair_meets n l set p x)) same (pairs_mutual.own p))
          (λ e. rising u p q (omega arith) k m r))
          (λ g. pairs_mutual.turn p q ∙ rising u q p (omega arith) h r m)

  goal_members : (goal : ℕ) → (all_of n goal (label_meets l set) and pairs_of n goal (pair_meets n l set)) ≡ goal_met n l set goal
  unfolding goal_met all_of
  goal_members goal = ap (λ (b : Bool). all_of n goal (label_meets l set) and b) (pairs_members goal)

-- a layer that meets the goal has each label and each pair of it right
module _ (n set goal : ℕ) (l : List ℕ) (met : So (goal_met n l set goal)) where
  label_met : (p : ℕ) → p < n → So (bit p goal) → So (label_meets l set p)
  label_met p h m = members_at n goal (label_meets l set) (and_left _ (goal_members n l set goal ∙ met)) p h m

  pair_met : (p q : ℕ) → p < n → q < n → So (bit p goal) → So (bit q goal) → So (pair_meets n l set p q)
  pair_met p q h k m r = two_at n goal (pair_meets n l set) (and_right _ (goal_members n l set goal ∙ met)) p q h k m r

-- what a label and a mutex word show there
within_all : (set w : ℕ) → So (within set w) → common w set ≡ set
unfolding within
within_all set w t = and_comm w set ∙ sym (xor_same set (common set w) (same_at t))

apart_none : (set w : ℕ) → So (fails (meets set w)) → common w set ≡ 0
unfolding meets
apart_none set w t = and_comm w set ∙ ⊎_elim same_at (λ e. absurd (fails_at t e)) (holds_or (same (common set w) 0))

pair_behind : (n p q : ℕ) → n ≤ pair_at n p q
unfolding pair_at
pair_behind n p q = omega (arith, size_pairs n, pairs_sub n p)

-- what the label of a goal shows where the goal is met
pub label_shows : (n set goal : ℕ) (l : List ℕ) (p : ℕ) → So (goal_met n l set goal) → p < n → So (bit p goal) → common (get_or l p 0) set ≡ shown_at n set p
unfolding shown_at label_in choose
label_shows n set goal l p m h b = within_all set _ (label_met n set goal l m p h b) ∙ simp (below_of h)

module _ {n set goal : ℕ} {l : List ℕ} where
  -- a goal whose label lacks a state
  pub label_judged : {p : ℕ} → p < n → Found (label_meets l set) n goal p → Judged n l set goal p
  label_judged {p} h f = record {
    met = λ g. absurd (omega (arith, labels_in n));
    not = λ g m. not_so _ (f.not h) (label_met n set goal l m p h (f.one h));
    shows = λ g other m. label_shows n set goal other p m h (f.one h);
  }

  -- two goals that are mutex
  pub pair_judged : {p q at : ℕ} → at ≡ pair_at n p q → p < q → q < n → So (bit p goal) → So (bit q goal)
      → pair_meets n l set p q ≡ false → Judged n l set goal at
  unfolding shown_at pair_meets choose
  pair_judged {p} {q} {at} e h k m r f = record {
    met = λ g. absurd (omega (arith, pair_in n p q h k));
    not = λ g t. not_so _ f (pair_met n set goal l t p q (omega arith) k m r);
    shows = λ g other t.
        ap (λ (x : ℕ). common x set) (mutex_up n other p q at h e)
        ∙ apart_none set _ (pair_met n set goal other t p q (omega arith) k m r)
        ∙ simp (below_not {i = at} {j = n} (omega (arith, pair_behind n p q)));
  }

  -- all labels and all pairs right: the goal is met, and no place is found
  pub all_judged : So (all_of n goal (label_meets l set)) → true ≡ pairs_of n goal (pair_meets n l set) → {at : ℕ} → at ≡ size n → Judged n l set goal at
  all_judged a b {at} e = record {
    met = λ g. sym (goal_members n l set goal) ∙ and_of a (sym b);
    not = λ g. absurd (omega arith);
    shows = λ g. absurd (omega arith);
  }

-- what a goal has beyond the n propositions does not count
module _ (n goal : ℕ) where
  held_bit : (p : ℕ) → p < n → bit p (common goal (first n)) ≡ bit p goal
  held_bit p h =
      bit_common p goal (first n) ∙ ap (λ (b : Bool). bit p goal and b) (bit_first p n ∙ below_of h) ∙ and_true

  met_held : (l : List ℕ) (set : ℕ) → goal_met n l set (common goal (first n)) ≡ goal_met n l set goal
  unfolding goal_met
  met_held l set =
      ap₂ ◌and◌
      (all_eq (λ p h. ap (λ (b : Bool). b implies within set (label_in l p)) (held_bit p h)))
      (all_eq (λ q h. all_eq (λ p g. ap₂ (λ (a b : Bool). (a and b) implies fails (meets set (mutex_in n l p q)))
      (held_bit p (omega arith)) (held_bit q h))))

pub first_held : (S : Shape) (depth set goal : ℕ) (words : List ℕ)
    → first_met S depth set (common goal (first S.props)) words ≡ first_met S depth set goal words
unfolding first_met
first_held S depth set goal words = first_eq (suc depth) (λ t h. met_held S.props goal (props_in S words t) set)
