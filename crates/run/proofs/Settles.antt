-- Version 2: what the labels stand for while only the word is kept up, and what a step makes of that.
-- Assumes nothing.
use Prim.Native.Nat.{ℕ, ◌+◌, ◌/◌, ◌%◌, ◌^◌, ◌<◌}
use mathlib.Core.Path.{◌≡◌, refl, sym, ap, ap₂, ◌∙◌}
use mathlib.Core.Bool.{Bool, true, false, So}
use mathlib.Core.Logic.{⊎_elim}
use mathlib.Core.List.{List}
use native.Mathlib.Nat.{mod-lt, zero-lt-suc}
use native.Mathlib.Omega.{arith}
use lib.ListN.{length, get_or}
use Rattle.rules.specs.Test.{◌and◌, ◌or◌, fails, same, choose}
use Rattle.rules.specs.Word.{bit, common, union, without, within, meets}
use Rattle.rules.proofs.Tests.{choose_held, choose_failed, holds_or, fails_of, fails_at, and_of, and_left, and_right, or_left, or_right, or_at, test_eq}
use Rattle.rules.proofs.Tests.{same_of, same_at}
use Rattle.rules.proofs.Overs.{bit_keep}
use Rattle.rules.proofs.Words.{bit_common, bit_union, bit_without, ext_all, within_at, meets_of}
use Rattle.rules.proofs.Members.{meet_of_at, meet_of_of}
use Rattle.rules.proofs.Layers.{length_list_over, get_d_list_over, list_over_eq}
use Rattle.words.specs.Width.{prop_width}
use Rattle.words.specs.Rows.{row_length}
use Rattle.words.proofs.Writes.{list_all}
use Rattle.run.specs.Course.{pack, leaves, brings, further}
use Rattle.run.specs.Fire.{course_in, settled_label, settled, having, same_rows, evenly, even_answer, next_of, told}
use Rattle.run.specs.declared.fire.Stepped.{Stepped}
use Rattle.run.specs.declared.fire.Stepped.TheVariants as did
use Rattle.run.proofs.Packs.{cut_bit, pack_high, leaves_low, leaves_high, brings_low, brings_high}
use Rattle.run.proofs.Idles.{lacking_bit, having_bit, rows_same, even_long, same_evenly, even_told}

-- ---- the label of a proposition, by its two bits of the word

module _ (set course : ℕ) (labels : List ℕ) where
  pub settled_long : length (settled set course labels) ≡ row_length
  unfolding settled
  settled_long = length_list_over row_length _

  module _ {p : ℕ} (l : p < row_length) where
    pub settled_at : get_or (settled set course labels) p 0 ≡ settled_label set course p (get_or labels p 0)
    unfolding settled
    settled_at = get_d_list_over _ l

    -- none lacks it
    settled_all : So (fails (bit p course)) → get_or (settled set course labels) p 0 ≡ union (get_or labels p 0) set
    unfolding settled_label
    settled_all f = settled_at ∙ choose_failed _ _ f

    -- some lacks it, and some has it
    settled_kept : So (bit p course) → So (bit (prop_width + p) course) → get_or (settled set course labels) p 0 ≡ get_or labels p 0
    unfolding settled_label
    settled_kept t u = settled_at ∙ choose_held _ t ∙ choose_held _ u

-- a bit, as it is read
module _ (w i : ℕ) where
  pub bit_off : w / 2 ^ i % 2 ≡ 0 → So (fails (bit i w))
  unfolding bit
  bit_off e = fails_of (λ t. let f : w / 2 ^ i % 2 ≡ 1 = same_at t in absurd (omega arith))

  pub bit_on : (w / 2 ^ i % 2 ≡ 0 → ⊥) → So (bit i w)
  unfolding bit
  bit_on off = let f : w / 2 ^ i % 2 ≡ 1 = omega (arith, off, mod-lt (w / 2 ^ i) (zero-lt-suc 1)) in same_of f

-- of one label
pub label_all : (set course p label : ℕ) → So (fails (bit p course)) → union label set ≡ settled_label set course p label
unfolding settled_label
label_all set course p label f = sym (choose_failed _ _ f)

pub label_none : (set course p label : ℕ) → So (bit p course) → So (fails (bit (prop_width + p) course)) → without label set ≡ settled_label set course p label
unfolding settled_label
label_none set course p label t f = sym (choose_held _ t ∙ choose_failed _ _ f)

pub label_kept : (set course p label : ℕ) → So (bit p course) → So (bit (prop_width + p) course) → label ≡ settled_label set course p label
unfolding settled_label
label_kept set course p label t u = sym (choose_held _ t ∙ choose_held _ u)

-- ---- labels of which the word tells nothing new

union_under : (x set : ℕ) → So (within set x) → union x set ≡ x
union_under x set w = ext_all (λ s. bit_union s x set ∙ test_eq (λ t. ⊎_elim (λ u. u) (within_at set x s w) (or_at t)) (or_left _))

without_apart : (x set : ℕ) → So (fails (meets x set)) → without x set ≡ x
without_apart x set f = ext_all (λ s. bit_without s x set
    ∙ test_eq (and_left _) (λ t. and_of t (fails_of (λ m. fails_at f (meets_of x set s t m)))))

pub settled_same : {course : ℕ} (set : ℕ) (labels : List ℕ) → length labels ≡ row_length → course ≡ course_in set labels → settled set course labels ≡ labels
unfolding settled settled_label
settled_same {course} set labels long is = list_over_eq (λ p l. ⊎_elim
    (λ t. choose_held _ t ∙ ⊎_elim
    (choose_held _)
    (λ f. choose_failed _ _ f ∙ without_apart (get_or labels p 0) set
    (fails_of (λ m. fails_at f (ap (bit (prop_width + p)) is ∙ having_bit set labels l ∙ m))))
    (holds_or (bit (prop_width + p) course)))
    (λ f. choose_failed _ _ f ∙ union_under (get_or labels p 0) set (⊎_elim
    (λ w. w)
    (λ g. absurd (fails_at f (ap (bit p) is ∙ lacking_bit set labels l ∙ g)))
    (holds_or (within set (get_or labels p 0)))))
    (holds_or (bit p course)))
    ∙ list_all labels long

-- ---- which states have all of a set: where each of it is had by some state, what none lacks need not be looked at

pub having_settled : (set course : ℕ) (labels : List ℕ) (when : ℕ) {above : ℕ} → above ≡ pack 0 when → common course above ≡ above
    → having labels set (common when (course % 2 ^ prop_width)) ≡ having (settled set course labels) set when
unfolding having
having_settled set course labels when {above} at e = ext_all (λ s. test_eq
    (λ t.
    let (i, each) = meet_of_at s (common when (course % 2 ^ prop_width)) set (λ p. get_or labels p 0) t in
    meet_of_of s when set (λ p. get_or (settled set course labels) p 0) i (λ p l m. ⊎_elim
    (λ u. ap (bit s) (settled_kept set course labels l u (some p m)) ∙ each p l (bit_common p when _ ∙ and_of m (cut_bit course prop_width p l ∙ u)))
    (λ f. ap (bit s) (settled_all set course labels l f) ∙ bit_union s (get_or labels p 0) set ∙ or_right _ i)
    (holds_or (bit p course))))
    (λ t.
    let (i, each) = meet_of_at s when set (λ p. get_or (settled set course labels) p 0) t in
    meet_of_of s (common when (course % 2 ^ prop_width)) set (λ p. get_or labels p 0) i (λ p l m.
    let v = sym (bit_common p when (course % 2 ^ prop_width)) ∙ m in
    ap (bit s) (sym (settled_kept set course labels l (sym (cut_bit course prop_width p l) ∙ and_right _ v) (some p (and_left _ v))))
    ∙ each p l (and_left _ v))))
  where
    some : (p : ℕ) → So (bit p when) → So (bit (prop_width + p) course)
    some p m = and_left _ (sym (bit_common (prop_width + p) course above) ∙ ap (bit (prop_width + p)) (e ∙ at) ∙ pack_high 0 when p (omega arith) ∙ m)

-- ---- deletes and adds in every state of the set

-- whether a state has p: by the two bits of the word, its bit of the label, and its bit of the set
unfoldable pub has : Bool → Bool → Bool → Bool → Bool
has low high x m = choose low (choose high x (x and fails m)) (x or m)

pub settled_bit : (set course p label s : ℕ) → bit s (settled_label set course p label) ≡ has (bit p course) (bit (prop_width + p) course) (bit s label) (bit s set)
unfolding settled_label has
settled_bit set course p label s =
    chosen (bit p course) _ _ ∙ ap₂ (choose (bit p course))
    (chosen (bit (prop_width + p) course) _ _ ∙ ap (choose (bit (prop_width + p) course) (bit s label)) (bit_without s label set)) (bit_union s label set)
  where
    chosen : (b : Bool) (x y : ℕ) → bit s (choose b x y) ≡ choose b (bit s x) (bit s y)
    chosen b x y = ⊎_elim
        (λ t. ap (bit s) (choose_held _ t) ∙ sym (choose_held _ t))
        (λ t. ap (bit s) (choose_failed _ _ t) ∙ sym (choose_failed _ _ t)) (holds_or b)

and_none : (b : Bool) → (b and false) ≡ false
unfolding ◌and◌
and_none true = refl
and_none false = refl

or_all : (b : Bool) → (b or true) ≡ true
unfolding ◌or◌
or_all true = refl
or_all false = refl

whole : (b : Bool) → ((b and true) or false) ≡ b
unfolding ◌and◌ ◌or◌
whole true = refl
whole false = refl

-- a state outside of the set has what its label says
pub outside : (low high x : Bool) → has low high x false ≡ x
unfolding has choose ◌and◌ ◌or◌ fails
outside true true x = refl
outside true false true = refl
outside true false false = refl
outside false high true = refl
outside false high false = refl

kept : (t d a : Bool) → ((t and fails (d and false)) or (a and false)) ≡ t
unfolding ◌and◌ ◌or◌ fails
kept true true a = refl
kept true false a = refl
kept false d true = refl
kept false d false = refl

even_bits : (low high d a x m : Bool)
    → has ((low and fails a) or (d and fails a)) ((high and fails (d and fails a)) or a) x m ≡ ((has low high x m and fails (d and m)) or (a and m))
unfolding has choose ◌and◌ ◌or◌ fails
even_bits low high d a x false =
    outside ((low and fails a) or (d and fails a)) ((high and fails (d and fails a)) or a) x
    ∙ sym (kept (has low high x false) d a ∙ outside low high x)
even_bits low high d true x true =
    ap (λ (b : Bool). has b ((high and fails (d and false)) or true) x true) (ap₂ ◌or◌ (and_none low) (and_none d)) ∙ or_all x
    ∙ sym (or_all (has low high x true and fails (d and true)))
even_bits low high true false x true =
    ap₂ (λ (b c : Bool). has b c x true) (or_all (low and true)) (ap (λ (b : Bool). b or false) (and_none high)) ∙ and_none x
    ∙ sym (ap (λ (b : Bool). b or false) (and_none (has low high x true)))
even_bits low high false false x true = ap₂ (λ (b c : Bool). has b c x true) (whole low) (whole high) ∙ sym (whole (has low high x true))

module _ (course del add : ℕ) {leave : ℕ} (leave_is : leave ≡ leaves del add) where
  pub answer_none : common course leave ≡ course → did.Unchanged ≡ even_answer course del add
  unfolding even_answer
  answer_none e = sym (choose_held _ (same_of (sym (ap (common course) leave_is) ∙ e)))

  pub answer_some : {bring : ℕ} → bring ≡ brings del add → (common course leave ≡ course → ⊥)
      → did.Changed (union (common course leave) bring) ≡ even_answer course del add
  unfolding even_answer further
  answer_some bring_is off =
      ap did.Changed (ap₂ union (ap (common course) leave_is) bring_is)
      ∙ sym (choose_failed _ _ (fails_of (λ t. off (ap (common course) leave_is ∙ same_at t))))

module _ (set course : ℕ) (labels : List ℕ) (del add : ℕ) (d : del < 2 ^ prop_width) (a : add < 2 ^ prop_width) where
  further_bit : (q : ℕ) → bit q (further (leaves del add) (brings del add) course) ≡ ((bit q course and bit q (leaves del add)) or bit q (brings del add))
  unfolding further
  further_bit q =
      bit_union q (common course (leaves del add)) (brings del add) ∙ ap (λ (b : Bool). b or bit q (brings del add)) (bit_common q course (leaves del add))

  -- the word alone follows them
  pub settled_even : settled set (further (leaves del add) (brings del add) course) labels ≡ evenly set del add (settled set course labels)
  unfolding settled evenly
  settled_even = list_over_eq (λ p l. ext_all (λ s.
      settled_bit set (further (leaves del add) (brings del add) course) p (get_or labels p 0) s
      ∙ ap₂ (λ (b c : Bool). has b c (bit s (get_or labels p 0)) (bit s set)) (low p l) (high p l)
      ∙ even_bits (bit p course) (bit (prop_width + p) course) (bit p del) (bit p add) (bit s (get_or labels p 0)) (bit s set)
      ∙ sym (bit_union s _ _ ∙ ap₂ ◌or◌
      (bit_without s _ _ ∙ ap₂ (λ (b c : Bool). b and fails c)
      (ap (bit s) (get_d_list_over _ l) ∙ settled_bit set course p (get_or labels p 0) s) (bit_keep s (bit p del) set))
      (bit_keep s (bit p add) set))))
    where
      low : (p : ℕ) → p < row_length
          → bit p (further (leaves del add) (brings del add) course) ≡ ((bit p course and fails (bit p add)) or (bit p del and fails (bit p add)))
      low p l = further_bit p ∙ ap₂ ◌or◌ (ap (λ (b : Bool). bit p course and b) (leaves_low del add p d a l)) (brings_low del add p d l)

      high : (p : ℕ) → p < row_length → bit (prop_width + p) (further (leaves del add) (brings del add) course)
          ≡ ((bit (prop_width + p) course and fails (bit p del and fails (bit p add))) or bit p add)
      high p l = further_bit (prop_width + p)
          ∙ ap₂ ◌or◌ (ap (λ (b : Bool). bit (prop_width + p) course and b) (leaves_high del add p d a l)) (brings_high del add p d)

  module _ {r : Stepped} (is : course ≡ course_in set (settled set course labels)) (told_is : r ≡ even_answer course del add) where
    abbrev now : List ℕ
    now = settled set course labels

    even_next : settled set (next_of course r) labels ≡ evenly set del add now
    unfolding even_answer next_of
    even_next = ⊎_elim
        (λ t. ap (λ (x : Stepped). settled set (next_of course x) labels) (told_is ∙ choose_held _ t)
        ∙ rows_same (settled_long set course labels) (even_long set del add now d a)
        (same_evenly set del add now d a (sym (ap (λ (w : ℕ). common w (leaves del add)) is) ∙ same_at t ∙ is)))
        (λ f. ap (λ (x : Stepped). settled set (next_of course x) labels) (told_is ∙ choose_failed _ _ f) ∙ settled_even)
        (holds_or (same (common course (leaves del add)) course))

    -- and tells whether they change anything
    pub even_done : {after : List ℕ} → evenly set del add now ≡ after → (settled set (next_of course r) labels ≡ after) × (r ≡ told set now after)
    even_done e = (even_next ∙ e, told_is ∙ even_told set del add now d a is ∙ ap (told set now) e)

-- ---- labels that were written

module _ (set : ℕ) {course : ℕ} (before labels : List ℕ) {r : Stepped} (long : length before ≡ row_length) (long' : length labels ≡ row_length)
    (is : course ≡ course_in set before) (told_is : r ≡ told set before labels) where
  written_next : settled set (next_of course r) labels ≡ labels
  unfolding told next_of
  written_next = ⊎_elim
      (λ t. ap (λ (x : Stepped). settled set (next_of course x) labels) (told_is ∙ choose_held _ t)
      ∙ settled_same set labels long' (is ∙ ap (course_in set) (rows_same long long' t)))
      (λ f. ap (λ (x : Stepped). settled set (next_of course x) labels) (told_is ∙ choose_failed _ _ f) ∙ settled_same set labels long' refl)
      (holds_or (same_rows before labels))

  pub written_done : {after : List ℕ} → labels ≡ after → (settled set (next_of course r) labels ≡ after) × (r ≡ told set before after)
  written_done e = (written_next ∙ e, told_is ∙ ap (told set before) e)
