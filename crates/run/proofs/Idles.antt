-- Version 2: what some state of the set lacks and what some state of it has, as a word; what a step makes of it, and which steps change nothing.
-- Assumes nothing.
use Prim.Native.Nat.{ℕ, ◌+◌, ◌*◌, ◌%◌, ◌^◌, ◌≤◌, ◌<◌}
use mathlib.Core.Path.{◌≡◌, refl, sym, ap, ap₂, subst, ◌∙◌}
use mathlib.Core.Bool.{Bool, true, false, not, So}
use mathlib.Core.Logic.{⊎_elim}
use mathlib.Core.List.{List}
use native.Mathlib.Numerals.{add-one}
use native.Mathlib.Omega.{arith}
use lib.Bits.{bit_xor, or_zero_l, xor_self, xor_add_and, or_add_and, and_le_l, and_le_r}
use lib.Dec.{eqb}
use lib.ListN.{length, get_or}
use Rattle.rules.specs.Test.{◌and◌, ◌or◌, fails, same}
use Rattle.rules.specs.Word.{bit, common, union, without, within, meets}
use Rattle.rules.specs.Over.{keep, all_below}
use Rattle.rules.proofs.Tests.{choose_held, choose_failed, holds_or, fails_of, fails_at, and_of, and_left, and_right, or_left, or_right, or_at}
use Rattle.rules.proofs.Tests.{same_of, same_at, test_eq}
use Rattle.rules.proofs.Overs.{all_of_lem, all_at, any_of, any_at, bit_keep, bit_join_over, join_over_lt, keep_lt, keep_held, keep_failed}
use Rattle.rules.proofs.Words.{bit_common, bit_union, bit_without, bit_single, bit_below, no_bit_zero, no_bits, common_lt, union_lt, single_lt, width, ext_all}
use Rattle.rules.proofs.Words.{within_of, within_at, meets_of, meets_no}
use Rattle.rules.proofs.Members.{meet_of_at, meet_of_of}
use Rattle.rules.proofs.Layers.{length_list_over, get_d_list_over, list_over_eq}
use Rattle.words.specs.Width.{prop_width, word_width}
use Rattle.words.specs.Rows.{row_length}
use Rattle.words.proofs.Writes.{list_all}
use Rattle.run.specs.Course.{pack, leaves, brings, further}
use Rattle.run.specs.Fire.{literals_in, course_in, having, same_rows, evenly, even_answer, told}
use Rattle.run.specs.declared.fire.Stepped.TheVariants as did
use Rattle.run.proofs.Packs.{pack_lt, pack_low, pack_high, halves, leaves_low, leaves_high, brings_lt, brings_low, brings_high}

-- ---- of one proposition, which the states x have

module _ (set x w : ℕ) where
  pub lacking_none : common x set ≡ set → 0 ≡ keep (fails (within set x)) w
  lacking_none e = sym (keep_failed _ w (fails_of (λ f. fails_at f (within_of x (width {w = set}) (λ s l m.
      and_left _ (sym (bit_common s x set) ∙ ap (bit s) e ∙ m))))))

  pub lacking_some : (common x set ≡ set → ⊥) → w ≡ keep (fails (within set x)) w
  lacking_some off = sym (keep_held w (fails_of (λ t. off (ext_all (λ s. bit_common s x set ∙ test_eq (and_right _) (λ m. and_of (within_at set x s t m) m))))))

  pub having_none : common x set ≡ 0 → 0 ≡ keep (meets x set) w
  unfolding meets
  having_none e = sym (keep_failed _ w (fails_of (λ f. fails_at f (same_of e))))

  pub having_some : (common x set ≡ 0 → ⊥) → w ≡ keep (meets x set) w
  unfolding meets
  having_some off = sym (keep_held w (fails_of (λ t. off (same_at t))))

-- ---- the bits of the word

module _ (set : ℕ) (labels : List ℕ) where
  literal_bit : (q p x : ℕ) → bit q (literals_in set p x) ≡ ((fails (within set x) and same q p) or (meets x set and same q (prop_width + p)))
  unfolding literals_in
  literal_bit q p x =
      bit_union q _ _
      ∙ ap₂ ◌or◌ (bit_keep q _ _ ∙ ap (λ (b : Bool). fails (within set x) and b) (bit_single q p))
      (bit_keep q _ _ ∙ ap (λ (b : Bool). meets x set and b) (bit_single q (prop_width + p)))

  pub course_lt : course_in set labels < 2 ^ word_width
  unfolding course_in literals_in
  course_lt = join_over_lt word_width _ (λ p l. union_lt word_width
      (keep_lt word_width (λ t. single_lt {n = word_width} {i = p} (omega arith)))
      (keep_lt word_width (λ t. single_lt {n = word_width} {i = prop_width + p} (omega arith))))

  -- some state of the set lacks p
  pub lacking_bit : {p : ℕ} → p < row_length → bit p (course_in set labels) ≡ fails (within set (get_or labels p 0))
  unfolding course_in
  lacking_bit {p} h =
      bit_join_over p (λ i. literals_in set i (get_or labels i 0)) (λ i l. literal_bit p i (get_or labels i 0))
      ∙ test_eq
      (λ t.
      let (i, l, u) = any_at t in
      ⊎_elim
      (λ v. subst (λ (j : ℕ). So (fails (within set (get_or labels j 0)))) (sym (same_at (and_right _ v))) (and_left _ v))
      (λ v. let e : p ≡ prop_width + i = same_at (and_right _ v) in absurd (omega arith))
      (or_at u))
      (λ t. any_of _ h (or_left _ (and_of t (same_of refl))))

  -- some state of the set has p
  pub having_bit : {p : ℕ} → p < row_length → bit (prop_width + p) (course_in set labels) ≡ meets (get_or labels p 0) set
  unfolding course_in
  having_bit {p} h =
      bit_join_over (prop_width + p) (λ i. literals_in set i (get_or labels i 0)) (λ i l. literal_bit (prop_width + p) i (get_or labels i 0))
      ∙ test_eq
      (λ t.
      let (i, l, u) = any_at t in
      ⊎_elim
      (λ v. let e : prop_width + p ≡ i = same_at (and_right _ v) in absurd (omega arith))
      (λ v.
      let e : prop_width + p ≡ prop_width + i = same_at (and_right _ v) in
      let f : i ≡ p = omega arith in
      subst (λ (j : ℕ). So (meets (get_or labels j 0) set)) f (and_left _ v))
      (or_at u))
      (λ t. any_of _ h (or_right _ (and_of t (same_of refl))))

  -- ---- what it tells of a set of propositions

  module _ (props : ℕ) where
    having_all : ((p : ℕ) → p < row_length → So (bit p props) → So (within set (get_or labels p 0))) → having labels set props ≡ set
    unfolding having
    having_all each = ext_all (λ s. test_eq
        (λ t. let (i, rest) = meet_of_at s props set (λ p. get_or labels p 0) t in i)
        (λ t. meet_of_of s props set (λ p. get_or labels p 0) t (λ p l m. within_at set (get_or labels p 0) s (each p l m) t)))

    -- every state of the set has them
    pub had_word : props < 2 ^ prop_width → same (common (course_in set labels) props) 0 ≡ same (having labels set props) set
    unfolding having
    had_word small = test_eq
        (λ t. same_of (having_all (λ p l m. ⊎_elim
        (λ u. u)
        (λ f. absurd (no_bit_zero p (ap (bit p) (sym (same_at t)) ∙ bit_common p (course_in set labels) props ∙ and_of (lacking_bit l ∙ f) m)))
        (holds_or (within set (get_or labels p 0))))))
        (λ t. same_of (ext_all (λ p. test_eq
        (λ u.
        let v = sym (bit_common p (course_in set labels) props) ∙ u in
        let l : p < prop_width = bit_below {n = prop_width} small (and_right _ v) in
        absurd (fails_at (sym (lacking_bit l) ∙ and_left _ v) (within_of (get_or labels p 0) (width {w = set}) (λ s k m.
        let (i, each) = meet_of_at s props set (λ q. get_or labels q 0) (ap (bit s) (same_at t) ∙ m) in each p l (and_right _ v)))))
        (λ u. absurd (no_bit_zero p u)))))

    pub had_all : props < 2 ^ prop_width → common (course_in set labels) props ≡ 0 → set ≡ having labels set props
    had_all small e = sym (same_at (sym (had_word small) ∙ same_of e))

    -- the propositions, as bits of what some state has
    pub above_is : props < 2 ^ prop_width → (props * 2 ^ prop_width) % 2 ^ word_width ≡ pack 0 props
    unfolding pack
    above_is small = omega (arith, small) ∙ sym (or_zero_l (props * 2 ^ prop_width))

    -- no state of the set has them
    pub had_none : {above : ℕ} → props < 2 ^ prop_width → above ≡ pack 0 props → (common (course_in set labels) above ≡ above → ⊥)
        → 0 ≡ having labels set props
    unfolding having
    had_none {above} small at off = ext_all (λ s. test_eq
        (λ t. absurd (no_bit_zero s t))
        (λ t.
        let (i, each) = meet_of_at s props set (λ q. get_or labels q 0) t in
        absurd (off (halves (common_lt word_width above course_lt) (subst (λ (w : ℕ). w < 2 ^ word_width) (sym at) (pack_lt (omega arith) small))
        (λ p l. bit_common p (course_in set labels) above ∙ test_eq
        (λ u. and_right _ u)
        (λ u. absurd (no_bit_zero p (sym (ap (bit p) at ∙ pack_low 0 props p (omega arith) l) ∙ u))))
        (λ p l. bit_common (prop_width + p) (course_in set labels) above ∙ test_eq
        (λ u. and_right _ u)
        (λ u. and_of (having_bit l ∙ meets_of (get_or labels p 0) set s
        (each p l (sym (ap (bit (prop_width + p)) at ∙ pack_high 0 props p (omega arith)) ∙ u)) i) u))))))

-- ---- a label, of which the states of the set are removed, or to which they are joined

module _ (x set : ℕ) (d a : Bool) where
  abbrev changed : ℕ
  changed = union (without x (keep d set)) (keep a set)

  changed_bit : (s : ℕ) → bit s changed ≡ ((bit s x and fails (d and bit s set)) or (a and bit s set))
  changed_bit s = bit_union s _ _ ∙ ap₂ ◌or◌ (bit_without s x _ ∙ ap (λ (b : Bool). bit s x and fails b) (bit_keep s d set)) (bit_keep s a set)

  -- it is as it was: all of them have what is joined, and none has what is removed
  same_label : (So a → So (within set x)) → (So (d and fails a) → So (meets x set) → ⊥) → x ≡ changed
  same_label w m = ext_all (λ s. test_eq
      (λ t. ⊎_elim
      (λ k. ⊎_elim
      (λ u. or_right _ (and_of k u))
      (λ f. or_left _ (and_of t (fails_of (λ u. fails_at f (and_right _ u)))))
      (holds_or (bit s set)))
      (λ f. or_left _ (and_of t (fails_of (λ u. m (and_of (and_left _ u) f) (meets_of x set s t (and_right _ u))))))
      (holds_or a))
      (λ t. ⊎_elim (and_left _) (λ u. within_at set x s (w (and_left _ u)) (and_right _ u)) (or_at t))
      ∙ sym (changed_bit s))

  label_joined : x ≡ changed → So a → So (within set x)
  label_joined e k = within_of x (width {w = set}) (λ s l m. ap (bit s) e ∙ changed_bit s ∙ or_right _ (and_of k m))

  label_removed : x ≡ changed → So (d and fails a) → So (meets x set) → ⊥
  label_removed e k = meets_no set (width {w = x}) (λ s l u m. ⊎_elim
      (λ v. fails_at (and_right _ v) (and_of (and_left _ k) m))
      (λ v. fails_at (and_right _ k) (and_left _ v))
      (or_at (sym (ap (bit s) e ∙ changed_bit s) ∙ u)))

  -- neither
  untouched : So (fails d) → So (fails a) → x ≡ changed
  untouched f g = same_label (λ k. absurd (fails_at g k)) (λ k m. fails_at f (and_left _ k))

  -- a state that is in it, if nothing is joined
  left_in : So (fails a) → (s : ℕ) → So (bit s changed) → So (bit s x and fails (d and bit s set))
  left_in g s t = ⊎_elim (λ u. u) (λ u. absurd (fails_at g (and_left _ u))) (or_at (sym (changed_bit s) ∙ t))

  module _ (some : set ≡ 0 → ⊥) where
    -- which of them lack it then, and which have it
    lacking_then : fails (within set changed) ≡ ((fails (within set x) and fails a) or (d and fails a))
    lacking_then = test_eq
        (λ t. ⊎_elim
        (λ k. absurd (fails_at t (within_of changed (width {w = set}) (λ s l m. changed_bit s ∙ or_right _ (and_of k m)))))
        (λ g. ⊎_elim
        (λ k. or_right _ (and_of k g))
        (λ f. or_left _ (and_of (subst (λ (w : ℕ). So (fails (within set w))) (sym (untouched f g)) t) g))
        (holds_or d))
        (holds_or a))
        (λ t. ⊎_elim
        (λ u. fails_of (λ w. fails_at (and_left _ u) (within_of x (width {w = set}) (λ s l m.
        and_left _ (left_in (and_right _ u) s (within_at set changed s w m))))))
        (λ u. fails_of (λ w. some (no_bits (width {w = set}) (λ s l m.
        fails_at (and_right _ (left_in (and_right _ u) s (within_at set changed s w m))) (and_of (and_left _ u) m)))))
        (or_at t))

    having_then : meets changed set ≡ ((meets x set and fails (d and fails a)) or a)
    having_then = test_eq
        (λ t. ⊎_elim
        (or_right _)
        (λ g. or_left _ (and_of
        (⊎_elim
        (λ u. u)
        (λ f. absurd (meets_no set (width {w = changed}) (λ s l u m. fails_at f (meets_of x set s (and_left _ (left_in g s u)) m)) t))
        (holds_or (meets x set)))
        (fails_of (λ k. meets_no set (width {w = changed}) (λ s l u m. fails_at (and_right _ (left_in g s u)) (and_of (and_left _ k) m)) t))))
        (holds_or a))
        (λ t. ⊎_elim
        (λ u. ⊎_elim
        joined
        (λ g. subst (λ (w : ℕ). So (meets w set)) (untouched (fails_of (λ k. fails_at (and_right _ u) (and_of k g))) g) (and_left _ u))
        (holds_or a))
        joined
        (or_at t))
      where
        joined : So a → So (meets changed set)
        joined k = ⊎_elim
            (λ u. u)
            (λ f. absurd (some (no_bits (width {w = set}) (λ s l m. fails_at f (meets_of changed set s (changed_bit s ∙ or_right _ (and_of k m)) m)))))
            (holds_or (meets changed set))

-- ---- rows that are the same

pub same_row : (labels : List ℕ) → So (same_rows labels labels)
unfolding same_rows
same_row labels = all_of_lem (λ p l. same_of refl)

pub rows_same : {xs ys : List ℕ} → length xs ≡ row_length → length ys ≡ row_length → So (same_rows xs ys) → xs ≡ ys
unfolding same_rows
rows_same {xs} {ys} long long' t = sym (list_all xs long) ∙ list_over_eq (λ p l. same_at (all_at _ t l)) ∙ list_all ys long'

-- the first i words differ in nothing
differ_same : (a b : ℕ) → same (bit_xor a b) 0 ≡ same a b
differ_same a b = test_eq
    (λ t. let e : bit_xor a b ≡ 0 = same_at t in same_of (omega (arith, xor_add_and a b, and_le_l a b, and_le_r a b)))
    (λ t. same_of (ap (bit_xor a) (sym (same_at t)) ∙ xor_self a))

join_same : (a b : ℕ) → same (union a b) 0 ≡ (same a 0 and same b 0)
join_same a b = test_eq
    (λ t.
    let e : union a b ≡ 0 = same_at t in
    and_of (same_of (omega (arith, or_add_and a b, and_le_l a b, and_le_r a b))) (same_of (omega (arith, or_add_and a b, and_le_l a b, and_le_r a b))))
    (λ t. same_of (ap₂ union (same_at (and_left _ t)) (same_at (and_right _ t))))

pub record Alike (xs ys : List ℕ) (differing i : ℕ) : Type 0 where
  pub inside : i ≤ row_length
  pub are : same differing 0 ≡ all_below i (λ p. same (get_or xs p 0) (get_or ys p 0))

pub alike_none : {xs ys : List ℕ} → Alike xs ys 0 0
unfolding all_below
alike_none = record { inside = omega arith; are = same_of refl }

pub as_fails : (b : Bool) → not b ≡ fails b
unfolding fails
as_fails true = refl
as_fails false = refl

module _ {xs ys : List ℕ} {differing i : ℕ} (s : Alike xs ys differing i) where
  pub alike_more : i < row_length → Alike xs ys (union differing (bit_xor (get_or xs i 0) (get_or ys i 0))) (i + 1)
  unfolding all_below
  alike_more l = record {
    inside = omega arith;
    are = join_same differing (bit_xor (get_or xs i 0) (get_or ys i 0)) ∙ ap₂ ◌and◌ s.are (differ_same (get_or xs i 0) (get_or ys i 0))
        ∙ ap (λ (n : ℕ). all_below n (λ p. same (get_or xs p 0) (get_or ys p 0))) (sym (add-one i));
  }

  pub alike_done : row_length ≤ i → not (eqb differing 0) ≡ fails (same_rows xs ys)
  unfolding same_rows same
  alike_done h =
      let e : i ≡ row_length = omega (arith, s.inside) in
      as_fails (eqb differing 0) ∙ ap fails (s.are ∙ ap (λ (n : ℕ). all_below n (λ p. same (get_or xs p 0) (get_or ys p 0))) e)

-- ---- what is answered

module _ (set : ℕ) (labels after : List ℕ) where
  told_none : So (same_rows labels after) → did.Unchanged ≡ told set labels after
  unfolding told
  told_none t = sym (choose_held _ t)

  pub told_some : {w : ℕ} → So (fails (same_rows labels after)) → w ≡ course_in set after → did.Changed w ≡ told set labels after
  unfolding told
  told_some f e = ap did.Changed e ∙ sym (choose_failed _ _ f)

not_fails : {b : Bool} → fails b ≡ false → So b
unfolding fails
not_fails {b = true} e = refl
not_fails {b = false} e = cc

pub told_alike : (set : ℕ) (labels after : List ℕ) {r : Bool} → r ≡ fails (same_rows labels after) → r ≡ false → did.Unchanged ≡ told set labels after
told_alike set labels after e f = told_none set labels after (not_fails (sym e ∙ f))

-- ---- deletes and adds in every state of the set

module _ (set del add : ℕ) (labels : List ℕ) (d : del < 2 ^ prop_width) (a : add < 2 ^ prop_width) where
  even_at : {p : ℕ} → p < row_length
      → get_or (evenly set del add labels) p 0 ≡ union (without (get_or labels p 0) (keep (bit p del) set)) (keep (bit p add) set)
  unfolding evenly
  even_at l = get_d_list_over _ l

  pub even_long : length (evenly set del add labels) ≡ row_length
  unfolding evenly
  even_long = length_list_over row_length _

  abbrev now : ℕ
  now = course_in set labels

  evenly_same : So (same_rows labels (evenly set del add labels)) → common now (leaves del add) ≡ now
  unfolding same_rows
  evenly_same t = halves (common_lt word_width _ (course_lt set labels)) (course_lt set labels)
      (λ p l. bit_common p now (leaves del add) ∙ test_eq
      (and_left _)
      (λ u. and_of u (leaves_low del add p d a l ∙ fails_of (λ k. fails_at (sym (lacking_bit set labels l) ∙ u)
      (label_joined _ set (bit p del) (bit p add) (same_at (all_at _ t l) ∙ even_at l) k)))))
      (λ p l. bit_common (prop_width + p) now (leaves del add) ∙ test_eq
      (and_left _)
      (λ u. and_of u (leaves_high del add p d a l ∙ fails_of (λ k.
      label_removed _ set (bit p del) (bit p add) (same_at (all_at _ t l) ∙ even_at l) k (sym (having_bit set labels l) ∙ u)))))

  pub same_evenly : common now (leaves del add) ≡ now → So (same_rows labels (evenly set del add labels))
  unfolding same_rows
  same_evenly e = all_of_lem (λ p l. same_of (same_label _ set (bit p del) (bit p add)
      (λ k. ⊎_elim
      (λ u. u)
      (λ f. absurd (fails_at (sym (leaves_low del add p d a l) ∙ left p (lacking_bit set labels l ∙ f)) k))
      (holds_or (within set (get_or labels p 0))))
      (λ k m. fails_at (sym (leaves_high del add p d a l) ∙ left (prop_width + p) (having_bit set labels l ∙ m)) k)
      ∙ sym (even_at l)))
    where
      left : (q : ℕ) → So (bit q now) → So (bit q (leaves del add))
      left q u = and_right _ (sym (ap (bit q) (sym e) ∙ bit_common q now (leaves del add)) ∙ u)

  -- where something changes there is a state in the set
  changed_some : (common now (leaves del add) ≡ now → ⊥) → set ≡ 0 → ⊥
  unfolding same_rows
  changed_some off e = off (evenly_same (all_of_lem (λ p l. same_of (same_label _ set (bit p del) (bit p add)
      (λ k. within_of _ (width {w = set}) (λ s h m. absurd (no_bit_zero s (ap (bit s) (sym e) ∙ m))))
      (λ k. meets_no set (width {w = get_or labels p 0}) (λ s h u m. no_bit_zero s (ap (bit s) (sym e) ∙ m)))
      ∙ sym (even_at l)))))

  -- the word after it
  pub evenly_course : (set ≡ 0 → ⊥) → union (common now (leaves del add)) (brings del add) ≡ course_in set (evenly set del add labels)
  evenly_course some = halves (union_lt word_width (common_lt word_width _ (course_lt set labels)) (brings_lt d a)) (course_lt set (evenly set del add labels))
      (λ p l. bit_union p (common now (leaves del add)) (brings del add)
      ∙ ap₂ ◌or◌ (bit_common p now (leaves del add) ∙ ap₂ ◌and◌ (lacking_bit set labels l) (leaves_low del add p d a l)) (brings_low del add p d l)
      ∙ sym (lacking_bit set (evenly set del add labels) l ∙ ap (λ (w : ℕ). fails (within set w)) (even_at l)
      ∙ lacking_then (get_or labels p 0) set (bit p del) (bit p add) some))
      (λ p l. bit_union (prop_width + p) (common now (leaves del add)) (brings del add)
      ∙ ap₂ ◌or◌ (bit_common (prop_width + p) now (leaves del add) ∙ ap₂ ◌and◌ (having_bit set labels l) (leaves_high del add p d a l))
      (brings_high del add p d)
      ∙ sym (having_bit set (evenly set del add labels) l ∙ ap (λ (w : ℕ). meets w set) (even_at l)
      ∙ having_then (get_or labels p 0) set (bit p del) (bit p add) some))

  -- what the word tells of it is so
  pub even_told : {course : ℕ} → course ≡ course_in set labels → even_answer course del add ≡ told set labels (evenly set del add labels)
  unfolding even_answer further
  even_told {course} is = ap (λ (w : ℕ). even_answer w del add) is ∙ ⊎_elim
      (λ t. choose_held _ t ∙ told_none set labels (evenly set del add labels) (same_evenly (same_at t)))
      (λ f.
      let off : common now (leaves del add) ≡ now → ⊥ = λ e. fails_at f (same_of e) in
      choose_failed _ _ f
      ∙ told_some set labels (evenly set del add labels) (fails_of (λ t. off (evenly_same t))) (evenly_course (changed_some off)))
      (holds_or (same (common now (leaves del add)) now))
