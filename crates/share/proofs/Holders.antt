-- The states that hold a goal in a layer, found by cutting all states to one word after the other, as long as some of them do not fall short.
-- Assumes nothing.
use mathlib.Core.Path.{◌≡◌, refl, sym, ap, ap₂, subst, ◌∙◌}
use mathlib.Core.Bool.{So}
use mathlib.Core.Logic.{⊎_elim}
use mathlib.Core.List.{List}
use Prim.Native.Nat.{ℕ, ◌^◌, ◌≤◌, ◌<◌}
use native.Mathlib.Nat.{lt_of_lt_of_le}
use native.Mathlib.Omega.{arith}
use lib.Count.{count_trailing_zeros}
use lib.Pow.{pow_mono}
use Rattle.rules.specs.Test.{fails, same}
use Rattle.rules.specs.Word.{bit, union, without, single, within}
use Rattle.rules.specs.Over.{join_of, meet_of}
use Rattle.rules.specs.Layer.{label_in, mutex_in}
use Rattle.rules.specs.Shared.{needs_label, needs_apart, vertex_label}
use Rattle.rules.specs.Share.{holders}
use Rattle.rules.proofs.Tests.{and_of, and_left, and_right, or_left, or_right, or_at, fails_of, fails_at, holds_or, same_at, test_eq}
use Rattle.rules.proofs.Words.{bit_common, bit_union, bit_without, bit_single, ext_all, width, within_of, within_at, without_lt}
use Rattle.rules.proofs.Members.{bit_join_of, join_empty, join_pick, rows_at, rows_of, mutex_turn, mutex_self, needs_own}
use Rattle.rules.proofs.Overs.{any_of, any_at}
use Rattle.rules.proofs.Scans.{less_none, less_union}
use Rattle.words.specs.Width.{word_width}
use Rattle.words.proofs.MemberLoops.{lowest_in, lowest_lt, Shares, shares_done}
use Rattle.words.proofs.Lowest.{others_above}
use Rattle.level.specs.Meets.{Above}
use Rattle.share.specs.Sums.{Looked}

-- ---- what was looked for as far as some do not fall short

-- all of it was
pub looked_all : {held found : ℕ} (short : ℕ) → found ≡ held → Looked held short found
looked_all short e = record { inside = λ t. subst (λ (x : ℕ). So (within x short)) e t; else = λ f. e }

-- what has no state but such as fall short
part_short : (held found short : ℕ) → ((s : ℕ) → So (bit s held) → So (bit s found)) → So (within found short) → So (within held short)
part_short held found short h t = within_of short (width {w = held}) (λ s l b. within_at found short s t (h s b))

pub looked_cut : (held found short : ℕ) → ((s : ℕ) → So (bit s held) → So (bit s found)) → So (within found short) → Looked held short found
looked_cut held found short h t = record { inside = λ _. part_short held found short h t; else = λ f. absurd (fails_at f t) }

-- the same once something else was looked for that has all of it
pub looked_part : (held more : ℕ) {found short : ℕ} → ((s : ℕ) → So (bit s held) → So (bit s more)) → Looked more short found → So (within found short)
    → Looked held short found
looked_part held more {found} {short} h l t = record { inside = λ _. part_short held more short h (l.inside t); else = λ f. absurd (fails_at f t) }

-- what is left of a set is in it
pub less_in : (a b s : ℕ) → So (bit s (without a b)) → So (bit s a)
less_in a b s t = and_left _ (sym (bit_without s a b) ∙ t)

-- ---- labels: what all goals have in common

pub labels_in : {n all goal left held : ℕ} (l : List ℕ) → Shares (label_in l) all n goal left held → (s : ℕ)
    → So (bit s (needs_label n all l goal)) → So (bit s held)
unfolding needs_label meet_of
labels_in {n} {all} {goal} {left} {held} l m s t = and_left _ (sym (bit_common s held (meet_of n left (label_in l) all)) ∙ (ap (bit s) m.is ∙ t))

pub labels_done : {n all goal left held : ℕ} (l : List ℕ) → Shares (label_in l) all n goal left held → left ≤ 0 → held ≡ needs_label n all l goal
unfolding needs_label meet_of
labels_done l m h = shares_done m h

-- ---- mutex words: one member of a set after the other is taken away, while some are left

pub record Less (f : ℕ → ℕ) (n set states left free : ℕ) : Type 0 where
  pub inside : left < 2 ^ n
  pub part : (i : ℕ) → So (bit i left) → So (bit i set)
  pub is : without free (join_of n left f) ≡ without states (join_of n set f)

pub less_all : {f : ℕ → ℕ} {n set states : ℕ} → set < 2 ^ n → Less f n set states set states
less_all h = record { inside = h; part = λ i t. t; is = refl }

module _ {f : ℕ → ℕ} {n set states left free : ℕ} (m : Less f n set states left free) where
  -- what is to be left is left
  pub less_has : (s : ℕ) → So (bit s (without states (join_of n set f))) → So (bit s free)
  less_has s t = less_in free (join_of n left f) s (ap (bit s) m.is ∙ t)

  module _ (few : n ≤ word_width) (some : 0 < left) where
    pub less_lt : {q : ℕ} → q ≡ count_trailing_zeros word_width left → q < n
    less_lt e = omega (arith, lowest_lt n left few m.inside some)

    -- what lies below all members lies below the next one
    pub less_above : {q : ℕ} (p : ℕ) → q ≡ count_trailing_zeros word_width left → Above p set → p < q
    less_above p e above = subst (λ (x : ℕ). p < x) (sym e) (above _ (m.part _ (lowest_in n left few m.inside some)))

    pub less_more : {w free' left' : ℕ} → w ≡ f (count_trailing_zeros word_width left) → free' ≡ without free w
        → left' ≡ without left (single (count_trailing_zeros word_width left)) → Less f n set states left' free'
    less_more {w} {free'} {left'} e r l = record {
      inside = subst (λ (x : ℕ). x < 2 ^ n) (sym l) (without_lt n _ m.inside);
      part = λ i t. m.part i (less_in left (single (count_trailing_zeros word_width left)) i (sym (ap (bit i) l) ∙ t));
      is = ap₂ (λ (x y : ℕ). without x (join_of n y f)) (r ∙ ap (without free) e) l
          ∙ less_union free (f (count_trailing_zeros word_width left)) (join_of n (without left (single (count_trailing_zeros word_width left))) f)
          ∙ ap (without free) (sym (join_pick left f (lowest_lt n left few m.inside some) (lowest_in n left few m.inside some)))
          ∙ m.is;
    }

  pub less_done : left ≤ 0 → free ≡ without states (join_of n set f)
  less_done h =
      let e : left ≡ 0 = omega arith in
      sym (less_none free) ∙ ap (without free) (sym (join_empty n f)) ∙ ap (λ (x : ℕ). without free (join_of n x f)) (sym e) ∙ m.is

-- ---- the mutex words of every two goals: one goal with those above it, then these by themselves

module _ (n : ℕ) (l : List ℕ) where
  apart_pick : (set : ℕ) {q : ℕ} → q < n → So (bit q set)
      → needs_apart n l set ≡ union (join_of n (without set (single q)) (mutex_in n l q)) (needs_apart n l (without set (single q)))
  apart_pick set {q} h t = ext_all (λ s. test_eq (to s) (from s))
    where
      less : ℕ
      less = without set (single q)

      stays : (i : ℕ) → So (bit i set) → So (fails (same i q)) → So (bit i less)
      stays i b e = bit_without i set (single q) ∙ and_of b (ap fails (bit_single i q) ∙ e)

      row : (s i : ℕ) → i < n → So (bit i set) → So (bit s (mutex_in n l q i)) → So (bit s (union (join_of n less (mutex_in n l q)) (needs_apart n l less)))
      row s i k b m =
          bit_union s (join_of n less (mutex_in n l q)) (needs_apart n l less)
          ∙ or_left _ (bit_join_of s n less (mutex_in n l q) ∙ any_of _ k (and_of (stays i b (fails_of (λ e. mutex_self s n l (sym (same_at e)) m))) m))

      to : (s : ℕ) → So (bit s (needs_apart n l set)) → So (bit s (union (join_of n less (mutex_in n l q)) (needs_apart n l less)))
      to s u =
          let r = rows_at (sym (ap (bit s) (needs_own n l set)) ∙ u) in
          ⊎_elim
          (λ e. row s r.q r.q_lt r.q_in (subst (λ (x : ℕ). So (bit s (mutex_in n l x r.q))) (same_at e) r.holds))
          (λ e. ⊎_elim
          (λ g. row s r.p r.p_lt r.p_in
          (subst (λ (x : ℕ). So (bit s (mutex_in n l x r.p))) (same_at g) (ap (bit s) (mutex_turn n l r.q r.p) ∙ r.holds)))
          (λ g. bit_union s (join_of n less (mutex_in n l q)) (needs_apart n l less) ∙ or_right _ (ap (bit s) (needs_own n l less) ∙ rows_of (record {
            p = r.p;
            q = r.q;
            p_lt = r.p_lt;
            q_lt = r.q_lt;
            p_in = stays r.p r.p_in e;
            q_in = stays r.q r.q_in g;
            holds = r.holds;
          })))
          (holds_or (same r.q q)))
          (holds_or (same r.p q))

      pair : (s i j : ℕ) → i < n → j < n → So (bit i set) → So (bit j set) → So (bit s (mutex_in n l i j)) → So (bit s (needs_apart n l set))
      pair s i j hi hj bi bj m =
          ap (bit s) (needs_own n l set) ∙ rows_of (record { p = i; q = j; p_lt = hi; q_lt = hj; p_in = bi; q_in = bj; holds = m })

      from : (s : ℕ) → So (bit s (union (join_of n less (mutex_in n l q)) (needs_apart n l less))) → So (bit s (needs_apart n l set))
      from s u = ⊎_elim
          (λ o.
          let (i, k, m) = any_at (sym (bit_join_of s n less (mutex_in n l q)) ∙ o) in
          pair s q i h k t (less_in set (single q) i (and_left _ m)) (and_right _ m))
          (λ o.
          let r = rows_at (sym (ap (bit s) (needs_own n l less)) ∙ o) in
          pair s r.p r.q r.p_lt r.q_lt (less_in set (single q) r.p r.p_in) (less_in set (single q) r.q r.q_in) r.holds)
          (or_at (sym (bit_union s (join_of n less (mutex_in n l q)) (needs_apart n l less)) ∙ u))

  apart_none : needs_apart n l 0 ≡ 0
  apart_none = needs_own n l 0 ∙ join_empty n (λ q. join_of n 0 (λ p. mutex_in n l p q))

pub record Apart (n : ℕ) (l : List ℕ) (goal states left free : ℕ) : Type 0 where
  pub inside : left < 2 ^ n
  pub is : without free (needs_apart n l left) ≡ without states (needs_apart n l goal)

pub apart_all : {n : ℕ} {l : List ℕ} {goal states : ℕ} → goal < 2 ^ n → Apart n l goal states goal states
apart_all h = record { inside = h; is = refl }

module _ {n : ℕ} {l : List ℕ} {goal states left free : ℕ} (m : Apart n l goal states left free) where
  module _ (few : n ≤ word_width) (some : 0 < left) {p left' : ℕ} (e : p ≡ count_trailing_zeros word_width left)
      (o : left' ≡ without left (single (count_trailing_zeros word_width left))) where
    pub apart_inside : left' < 2 ^ n
    apart_inside = subst (λ (x : ℕ). x < 2 ^ n) (sym o) (without_lt n _ m.inside)

    -- those above the next goal
    pub apart_above : Above p left'
    apart_above q t = subst (λ (x : ℕ). x < q) (sym e) (others_above word_width left q (lt_of_lt_of_le m.inside (pow_mono few)) (sym (ap (bit q) o) ∙ t))

    apart_next : without (without free (join_of n left' (mutex_in n l p))) (needs_apart n l left') ≡ without states (needs_apart n l goal)
    apart_next =
        ap₂ (λ (x y : ℕ). without (without free (join_of n y (mutex_in n l x))) (needs_apart n l y)) e o
        ∙ less_union free _ _
        ∙ ap (without free) (sym (apart_pick n l left (lowest_lt n left few m.inside some) (lowest_in n left few m.inside some)))
        ∙ m.is

    pub apart_more : {free' : ℕ} → free' ≡ without free (join_of n left' (mutex_in n l p)) → Apart n l goal states left' free'
    apart_more r = record { inside = apart_inside; is = ap (λ (x : ℕ). without x (needs_apart n l left')) r ∙ apart_next }

    -- what is to be left is in what is left after the next one
    pub apart_in : (s : ℕ) → So (bit s (without states (needs_apart n l goal))) → So (bit s (without free (join_of n left' (mutex_in n l p))))
    apart_in s t = less_in _ (needs_apart n l left') s (ap (bit s) apart_next ∙ t)

  pub apart_done : left ≤ 0 → free ≡ without states (needs_apart n l goal)
  apart_done h =
      let e : left ≡ 0 = omega arith in
      sym (less_none free) ∙ ap (without free) (sym (apart_none n l)) ∙ ap (λ (x : ℕ). without free (needs_apart n l x)) (sym e) ∙ m.is

-- ---- both

module _ (n all : ℕ) (l : List ℕ) (goal : ℕ) where
  pub holders_in : (s : ℕ) → So (bit s (holders n all l goal)) → So (bit s (needs_label n all l goal))
  unfolding vertex_label
  holders_in s t = less_in _ (needs_apart n l goal) s t

  pub holders_are : {held : ℕ} → held ≡ needs_label n all l goal → without held (needs_apart n l goal) ≡ holders n all l goal
  unfolding vertex_label
  holders_are e = ap (λ (x : ℕ). without x (needs_apart n l goal)) e
