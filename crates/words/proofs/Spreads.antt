-- A word joined to the words of a row that a set names, one member after the other; and lists of sets turned round.
-- Assumes nothing.
use Prim.Native.Nat.{ℕ, suc, ◌+◌, ◌^◌, ◌≤◌, ◌<◌}
use mathlib.Core.Path.{◌≡◌, refl, sym, ap, ap₂, subst, ◌∙◌}
use mathlib.Core.Bool.{Bool, true, false, So}
use mathlib.Core.Logic.{⊎_elim}
use mathlib.Core.List.{List}
use native.Mathlib.Numerals.{add-one}
use native.Mathlib.Omega.{arith}
use lib.Bits.{or_zero_r}
use lib.Count.{count_trailing_zeros}
use lib.ListN.{length, get_or, set, length-set}
use lib.Seq.{ext_get_or, get_or-set_same, get_or-set_other}
use Rattle.rules.specs.Test.{◌and◌, fails, same, choose}
use Rattle.rules.specs.Word.{bit, common, union, without, single, first}
use Rattle.rules.specs.Over.{keep, join_over}
use Rattle.rules.specs.Lists.{list_over}
use Rattle.rules.specs.Layer.{label_in}
use Rattle.rules.specs.Shared.{start_label}
use Rattle.rules.proofs.Tests.{holds_or, same_of, same_at, below_of, fails_at}
use Rattle.rules.proofs.Words.{bit_common, bit_without, bit_single, bit_first, bit_zero, first_lt, common_lt, without_lt}
use Rattle.rules.proofs.Layers.{length_list_over, get_d_list_over, list_over_eq}
use Rattle.words.specs.Width.{word_width}
use Rattle.words.proofs.MemberLoops.{lowest_in, lowest_lt}

-- the words of the row so far, with the members that are left
pub record Spreads (t all : ℕ) (row₀ : List ℕ) (left : ℕ) (row : List ℕ) : Type 0 where
  pub few : length row₀ ≤ word_width
  pub inside : left < 2 ^ length row₀
  pub long : length row ≡ length row₀
  pub is : (j : ℕ) → j < length row₀ → union (get_or row j 0) (keep (bit j left) t) ≡ union (get_or row₀ j 0) (keep (bit j all) t)

pub spreads_none : {t all : ℕ} {row : List ℕ} → length row ≤ word_width → all < 2 ^ length row → Spreads t all row all row
spreads_none h l = record { few = h; inside = l; long = refl; is = λ j k. refl }

-- bit j of a set without q
pub bit_left : (j q set left : ℕ) → left ≡ without set (single q) → bit j left ≡ (bit j set and fails (same j q))
bit_left j q set left e = ap (bit j) e ∙ bit_without j set (single q) ∙ ap (λ (b : Bool). bit j set and fails b) (bit_single j q)

gone : (b c : Bool) → So c → (b and fails c) ≡ false
unfolding ◌and◌ fails
gone true true h = refl
gone false true h = refl
gone b false h = absurd (fails_at refl h)

pub stays : (b c : Bool) → So (fails c) → (b and fails c) ≡ b
unfolding ◌and◌ fails
stays true true h = absurd (fails_at h refl)
stays false true h = refl
stays true false h = refl
stays false false h = refl

pub spreads_more : {t all left left' q x : ℕ} {row₀ row : List ℕ} → Spreads t all row₀ left row → 0 < left → q ≡ count_trailing_zeros word_width left
    → x ≡ union (get_or row q 0) t → left' ≡ without left (single (count_trailing_zeros word_width left)) → Spreads t all row₀ left' (set row q x)
unfolding keep choose
spreads_more {t} {all} {left} {left'} {q} {x} {row₀} {row} s some e f g =
    let low : count_trailing_zeros word_width left < length row₀ = lowest_lt (length row₀) left s.few s.inside some in
    let g' : left' ≡ without left (single q) = g ∙ ap (λ (i : ℕ). without left (single i)) (sym e) in
    record {
      few = s.few;
      inside = subst (λ (y : ℕ). y < 2 ^ length row₀) (sym g) (without_lt (length row₀) _ s.inside);
      long = length-set row q x ∙ s.long;
      is = λ j h. ⊎_elim
          (λ u.
          let at : j ≡ q = same_at u in
          ap₂ (λ (y : ℕ) (b : Bool). union y (keep b t))
          (ap (λ (i : ℕ). get_or (set row q x) i 0) at ∙ get_or-set_same row q x 0 (omega (arith, s.long)) ∙ f ∙ ap (λ (i : ℕ). union (get_or row i 0) t) (sym at))
          (bit_left j q left left' g' ∙ gone (bit j left) (same j q) u)
          ∙ or_zero_r (union (get_or row j 0) t)
          ∙ ap (λ (b : Bool). union (get_or row j 0) (keep b t))
          (sym (ap (λ (i : ℕ). bit i left) (at ∙ e) ∙ lowest_in (length row₀) left s.few s.inside some))
          ∙ s.is j h)
          (λ u.
          ap₂ (λ (y : ℕ) (b : Bool). union y (keep b t))
          (get_or-set_other row q j x 0 (λ at. fails_at u (same_of at)))
          (bit_left j q left left' g' ∙ stays (bit j left) (same j q) u)
          ∙ s.is j h)
          (holds_or (same j q));
    }

pub spreads_done : {t all left : ℕ} {row₀ row : List ℕ} → Spreads t all row₀ left row → left ≤ 0
    → row ≡ list_over (length row₀) (λ j. union (label_in row₀ j) (keep (bit j all) t))
unfolding keep choose label_in
spreads_done {t} {all} {left} {row₀} {row} s h =
    let e : left ≡ 0 = omega arith in
    ext_get_or 0 row _ (s.long ∙ sym (length_list_over (length row₀) _)) (λ j l.
    let g : j < length row₀ = omega (arith, s.long) in
    sym (or_zero_r (get_or row j 0)) ∙ ap (λ (b : Bool). union (get_or row j 0) (keep b t)) (sym (ap (bit j) e ∙ bit_zero j))
    ∙ s.is j g ∙ sym (get_d_list_over _ g))

-- of a set, those members that the row has a word for
pub cut_lt : (n set left : ℕ) → left ≡ common (first n) set → left < 2 ^ n
cut_lt n set left e = subst (λ (x : ℕ). x < 2 ^ n) (sym e) (common_lt n set (first_lt n))

-- are all that counts
pub spread_cut : (t set left : ℕ) (row : List ℕ) → left ≡ common (first (length row)) set
    → list_over (length row) (λ j. union (label_in row j) (keep (bit j left) t)) ≡ list_over (length row) (λ j. union (label_in row j) (keep (bit j set) t))
unfolding ◌and◌
spread_cut t set left row e =
    list_over_eq (λ j l. ap (λ (b : Bool). union (label_in row j) (keep b t))
    (ap (bit j) e ∙ bit_common j (first (length row)) set
    ∙ ap (λ (b : Bool). b and bit j set) (bit_first j (length row) ∙ below_of l)))

-- where nothing is taken, nothing changes
pub spread_nothing : (t all : ℕ) (row : List ℕ) → t ≡ 0 → row ≡ list_over (length row) (λ j. union (label_in row j) (keep (bit j all) t))
unfolding keep choose label_in
spread_nothing t all row e =
    ext_get_or 0 row _ (sym (length_list_over (length row) _)) (λ j l.
    sym (get_d_list_over _ l ∙ ap (union (get_or row j 0)) (none (bit j all)) ∙ or_zero_r (get_or row j 0)))
  where
    none : (b : Bool) → keep b t ≡ 0
    none true = e
    none false = refl

-- ---- lists of sets turned round, one set after the other

pub columns_none : (n : ℕ) (f : ℕ → ℕ) (row : List ℕ) → row ≡ list_over n (λ q. 0) → row ≡ list_over n (start_label 0 f)
unfolding start_label join_over
columns_none n f row e = e

label_next : (i : ℕ) (f : ℕ → ℕ) (q : ℕ) → union (start_label i f q) (keep (bit q (f i)) (single i)) ≡ start_label (suc i) f q
unfolding start_label join_over
label_next i f q = refl

pub columns_more : (n i : ℕ) (f : ℕ → ℕ) (row row' : List ℕ) (x y : ℕ) → row ≡ list_over n (start_label i f) → x ≡ f i → y ≡ single i
    → row' ≡ list_over (length row) (λ q. union (label_in row q) (keep (bit q x) y)) → row' ≡ list_over n (start_label (i + 1) f)
unfolding label_in
columns_more n i f row row' x y e named one h =
    h ∙ ap (λ (m : ℕ). list_over m (λ q. union (get_or row q 0) (keep (bit q x) y))) (ap length e ∙ length_list_over n _)
    ∙ list_over_eq (λ q l.
    ap (λ (z : ℕ). union z (keep (bit q x) y)) (ap (λ (r : List ℕ). get_or r q 0) e ∙ get_d_list_over _ l)
    ∙ ap₂ (λ (u v : ℕ). union (start_label i f q) (keep (bit q u) v)) named one ∙ label_next i f q
    ∙ ap (λ (k : ℕ). start_label k f q) (sym (add-one i)))
