-- Effects paired one by one: the words that a loop over the effects independent of one leaves.
-- Assumes nothing.
use Prim.Native.Nat.{ℕ, ◌+◌, ◌-◌, ◌*◌, ◌≤◌, ◌<◌, ◌^◌}
use mathlib.Core.Path.{◌≡◌, refl, sym, ap, ap₂, subst, ◌∙◌}
use mathlib.Core.Bool.{Bool, So}
use mathlib.Core.Logic.{⊎_elim, inr}
use mathlib.Core.List.{List}
use native.Mathlib.Omega.{arith}
use native.Mathlib.Nat.{lt_of_lt_of_le}
use borrow.Rule.Slice.PartMut.{put_mid}
use lib.Count.{count_trailing_zeros}
use lib.ListN.{length, get_or, take, drop, set, length-set}
use lib.ListN as L
use lib.Pow.{pow_mono}
use lib.Seq.{ext_get_or, get_or-set_same, get_or-set_other}
use Rattle.rules.specs.Test.{same, choose}
use Rattle.rules.specs.Word.{bit, common, union, without, single, first}
use Rattle.rules.specs.Over.{keep, join_of, meet_of}
use Rattle.rules.specs.Lists.{list_over}
use Rattle.rules.specs.Layer.{label_in}
use Rattle.rules.proofs.Layers.{length_list_over, get_d_list_over, list_over_eq}
use Rattle.rules.proofs.Tests.{choose_held, choose_failed, holds_or, same_of, same_at, fails_at}
use Rattle.rules.proofs.Words.{bit_zero, first_lt, without_lt}
use Rattle.words.specs.Rows.{row_length, table_length, cell, InParts}
use Rattle.words.specs.Width.{word_width}
use Rattle.words.proofs.Cells.{Rows, rows_none}
use Rattle.words.proofs.MemberLoops.{Members, members_none, members_more, members_done, Lanes, lanes_more, lanes_done, lowest_in, lowest_lt}
use Rattle.words.proofs.Spreads.{bit_left, stays}
use Rattle.together.specs.Cells.{RowPut, EmptyRows, Independent, independent_of, with_independent, with_prop, mates_of, beside_of, mate_of, beside_for}
use Rattle.together.proofs.Rows.{parts_le, row_again, rows_row, row_word, lent, lent_row, lent_long}

-- both ways the same
either : (b : Bool) (x : ℕ) → choose b x x ≡ x
either b x = ⊎_elim (λ t. choose_held x t) (λ t. choose_failed b x t) (holds_or b)

-- ---- one word of a row

pub word_set : (row : List ℕ) (q v k : ℕ) → q < length row → get_or (set row q v) k 0 ≡ choose (same k q) v (get_or row k 0)
word_set row q v k h = ⊎_elim
    (λ u. ap (λ (x : ℕ). get_or (set row q v) x 0) (same_at u) ∙ get_or-set_same row q v 0 h ∙ sym (choose_held (get_or row k 0) u))
    (λ u. get_or-set_other row q k v 0 (λ e. fails_at u (same_of e)) ∙ sym (choose_failed (same k q) v u))
    (holds_or (same k q))

-- ---- a loop that puts f at each member: what is still to be put gives what is to be put at first

pub record Puts (f : ℕ → ℕ) (n set₀ : ℕ) (row₀ : List ℕ) (left : ℕ) (row : List ℕ) : Type 0 where
  pub long : length row ≡ n
  pub is : (k : ℕ) → k < n → choose (bit k left) (f k) (get_or row k 0) ≡ choose (bit k set₀) (f k) (get_or row₀ k 0)

pub puts_more : {f : ℕ → ℕ} {n set₀ left left' q v : ℕ} {row₀ row : List ℕ} → Puts f n set₀ row₀ left row → q < n → So (bit q left) → v ≡ f q
    → left' ≡ without left (single q) → Puts f n set₀ row₀ left' (set row q v)
puts_more {f} {n} {set₀} {left} {left'} {q} {v} {row₀} {row} s h in_left e g = record {
  long = length-set row q v ∙ s.long;
  is = λ k l. ⊎_elim
      (λ u.
      let at : k ≡ q = same_at u in
      ap (choose (bit k left') (f k)) (ap (λ (x : ℕ). get_or (set row q v) x 0) at ∙ get_or-set_same row q v 0 (omega (arith, s.long)) ∙ e ∙ ap f (sym at))
      ∙ either (bit k left') (f k) ∙ sym (choose_held (get_or row k 0) (ap (λ (x : ℕ). bit x left) at ∙ in_left)) ∙ s.is k l)
      (λ u. ap₂ (λ (b : Bool) (x : ℕ). choose b (f k) x) (bit_left k q left left' g ∙ stays (bit k left) (same k q) u)
      (get_or-set_other row q k v 0 (λ at. fails_at u (same_of at))) ∙ s.is k l)
      (holds_or (same k q));
}

pub puts_done : {f : ℕ → ℕ} {n set₀ left : ℕ} {row₀ row : List ℕ} → Puts f n set₀ row₀ left row → left ≤ 0
    → row ≡ list_over n (λ k. choose (bit k set₀) (f k) (get_or row₀ k 0))
unfolding choose
puts_done {f} {n} {set₀} {left} {row₀} {row} s h =
    let e : left ≡ 0 = omega arith in
    ext_get_or 0 row _ (s.long ∙ sym (length_list_over n _)) (λ k l.
    let g : k < n = omega (arith, s.long) in
    ap (λ (b : Bool). choose b (f k) (get_or row k 0)) (sym (ap (bit k) e ∙ bit_zero k)) ∙ s.is k g ∙ sym (get_d_list_over _ g))

-- ---- effect i with those independent of it, one after the other

-- what one of them that adds p brings it
pub adding : (i : ℕ) → List ℕ → List ℕ → List ℕ → List ℕ → ℕ → ℕ → ℕ
adding i needs adds live row p j = keep (bit p (get_or adds j 0)) (with_independent needs live row i j)

pub record Fews (i set : ℕ) (needs adds live row mates₀ beside₀ : List ℕ) (left : ℕ) (mates beside : List ℕ) : Type 0 where
  pub inside : left < 2 ^ length needs
  pub with_each : Puts (with_independent needs live row i) row_length set mates₀ left mates
  pub with_adders_lem : Lanes (λ p left w. Members (adding i needs adds live row p) (get_or beside₀ p 0) row_length set left w) row_length left beside

module _ {i set : ℕ} {needs adds live row : List ℕ} (many : length needs ≤ row_length) (asks : Independent i set (length needs) live row) where
  pub fews_none : {mates beside : List ℕ} → length mates ≡ row_length → length beside ≡ row_length → Fews i set needs adds live row mates beside set mates beside
  fews_none m b = record {
    inside = asks.others;
    with_each = record { long = m; is = λ k h. refl };
    with_adders_lem = record { long = b; is = λ p h. members_none (lt_of_lt_of_le asks.others (pow_mono many)) };
  }

  module _ {mates₀ beside₀ mates beside : List ℕ} {left : ℕ} (s : Fews i set needs adds live row mates₀ beside₀ left mates beside) where
    pub fews_lowest : 0 < left → count_trailing_zeros word_width left < length needs
    fews_lowest some = lowest_lt (length needs) left (omega (arith, many)) s.inside some

    independent_is : (j : ℕ) {named both : ℕ} → named ≡ get_or needs j 0 → both ≡ meet_of (length row) named (λ q. get_or row q 0) (common (get_or live i 0) (get_or live j 0))
        → both ≡ with_independent needs live row i j
    unfolding with_independent
    independent_is j need met = met ∙ ap₂ (λ (n x : ℕ). meet_of n x (λ q. get_or row q 0) (common (get_or live i 0) (get_or live j 0))) asks.row_long need

    -- j is the next of them, `both` what the two are together in
    pub fews_more : {j named both added left' : ℕ} {beside' : List ℕ} → 0 < left → j ≡ count_trailing_zeros word_width left → named ≡ get_or needs j 0
        → both ≡ meet_of (length row) named (λ q. get_or row q 0) (common (get_or live i 0) (get_or live j 0)) → added ≡ get_or adds j 0
        → beside' ≡ list_over (length beside) (λ q. union (label_in beside q) (keep (bit q added) both))
        → left' ≡ without left (single (count_trailing_zeros word_width left)) → Fews i set needs adds live row mates₀ beside₀ left' (L.set mates j both) beside'
    unfolding label_in adding
    fews_more {j} {named} {both} {added} {left'} {beside'} some e need met add spread g =
        let few : length needs ≤ word_width = omega (arith, many) in
        let is : both ≡ with_independent needs live row i j = independent_is j need met in
        let low : j < row_length = omega (arith, many, fews_lowest some) in
        record {
          inside = subst (λ (x : ℕ). x < 2 ^ length needs) (sym g) (without_lt (length needs) _ s.inside);
          with_each = puts_more s.with_each low (ap (λ (x : ℕ). bit x left) e ∙ lowest_in (length needs) left few s.inside some) is
              (g ∙ ap (λ (x : ℕ). without left (single x)) (sym e));
          with_adders_lem = lanes_more s.with_adders_lem (λ p m. members_more m (omega arith) some (ap₂ (λ (x y : ℕ). keep (bit p x) y) add is ∙ ap (λ (x : ℕ). adding i needs adds live row p x) e) refl g)
              (spread ∙ ap (λ (n : ℕ). list_over n (λ q. union (get_or beside q 0) (keep (bit q added) both))) s.with_adders_lem.long);
        }

pub fews_done : {i set : ℕ} {needs adds live row mates₀ beside₀ mates beside : List ℕ} {left : ℕ} → Fews i set needs adds live row mates₀ beside₀ left mates beside
    → left ≤ 0 → (mates ≡ list_over row_length (λ j. choose (bit j set) (with_independent needs live row i j) (get_or mates₀ j 0)))
    × (beside ≡ list_over row_length (λ p. union (get_or beside₀ p 0) (join_of row_length set (λ j. keep (bit p (get_or adds j 0)) (with_independent needs live row i j)))))
unfolding adding
fews_done s h = (puts_done s.with_each h, lanes_done s.with_adders_lem (λ p m. members_done m h))

-- ---- and with itself

module _ (i : ℕ) (needs adds interferers live row : List ℕ) {set : ℕ} (independent : set ≡ independent_of needs interferers i) where
  pub own_mates : (mates₀ : List ℕ) {mates : List ℕ} → i < row_length → mates ≡ list_over row_length (λ j. choose (bit j set) (with_independent needs live row i j) (get_or mates₀ j 0))
      → L.set mates i (get_or live i 0) ≡ mates_of needs interferers live row i mates₀
  unfolding mates_of
  own_mates mates₀ {mates} h e =
      let long : length mates ≡ row_length = ap length e ∙ length_list_over row_length _ in
      ext_get_or 0 _ _ (length-set mates i (get_or live i 0) ∙ long ∙ sym (length_list_over row_length _)) (λ k l.
      let g : k < row_length = omega (arith, length-set mates i (get_or live i 0), long) in
      word_set mates i (get_or live i 0) k (omega (arith, long))
      ∙ ap (choose (same k i) (get_or live i 0)) (ap (λ (x : List ℕ). get_or x k 0) e ∙ get_d_list_over _ g
      ∙ ap (λ (x : ℕ). choose (bit k x) (with_independent needs live row i k) (get_or mates₀ k 0)) independent)
      ∙ sym (get_d_list_over _ g))

  pub own_beside : (beside₀ : List ℕ) {beside beside' : List ℕ}
      → beside ≡ list_over row_length (λ p. union (get_or beside₀ p 0) (join_of row_length set (λ j. keep (bit p (get_or adds j 0)) (with_independent needs live row i j))))
      → beside' ≡ list_over (length beside) (λ q. union (label_in beside q) (keep (bit q (get_or adds i 0)) (get_or live i 0)))
      → beside' ≡ beside_of needs adds interferers live row i beside₀
  unfolding beside_of label_in
  own_beside beside₀ {beside} e d =
      d ∙ ap (λ (n : ℕ). list_over n (λ q. union (get_or beside q 0) (keep (bit q (get_or adds i 0)) (get_or live i 0)))) (ap length e ∙ length_list_over row_length _)
      ∙ list_over_eq (λ q h. ap (λ (x : ℕ). union x (keep (bit q (get_or adds i 0)) (get_or live i 0)))
      (ap (λ (x : List ℕ). get_or x q 0) e ∙ get_d_list_over _ h
      ∙ ap (λ (x : ℕ). union (get_or beside₀ q 0) (join_of row_length x (λ j. keep (bit q (get_or adds j 0)) (with_independent needs live row i j)))) independent))

-- the independent effects, as the code finds them, are effects
module _ (needs interferers : List ℕ) (i : ℕ) {all one : ℕ} (a : all ≡ first (length needs)) (o : one ≡ single i) where
  pub independent_are : without all (union (get_or interferers i 0) one) ≡ independent_of needs interferers i
  unfolding independent_of
  independent_are = ap₂ (λ (x y : ℕ). without x (union (get_or interferers i 0) y)) a o

  pub independent_lt : without all (union (get_or interferers i 0) one) < 2 ^ length needs
  independent_lt = without_lt (length needs) _ (subst (λ (x : ℕ). x < 2 ^ length needs) (sym a) (first_lt (length needs)))

-- ---- all effects: a row of each table is lent, and comes back with what stands in these tables

pub record Effects (needs adds dels interferers live r : List ℕ) (width i : ℕ) (mates besides : List ℕ) : Type 0 where
  pub narrow : width ≤ row_length
  pub pairs : Rows (mate_of needs interferers live r) row_length i mates
  pub empty : (j k : ℕ) → i ≤ j → j < length needs → k < row_length → cell mates j k ≡ 0
  pub with_adders_lem : Rows (beside_for needs adds dels interferers live r) width i besides

pub effects_none : (needs adds dels interferers live r : List ℕ) {width : ℕ} {mates besides : List ℕ} → InParts width → length mates ≡ table_length
    → EmptyRows (length needs) mates → length besides ≡ table_length → Effects needs adds dels interferers live r width 0 mates besides
effects_none needs adds dels interferers live r parts whole rows long = record {
  narrow = parts_le parts;
  pairs = rows_none whole;
  empty = λ j k l h g. rows j k h g;
  with_adders_lem = rows_none long;
}

module _ {needs adds dels interferers live r : List ℕ} {width i : ℕ} {mates besides : List ℕ}
    (s : Effects needs adds dels interferers live r width i mates besides) (parts : InParts width) (h : i < row_length) (effect : i < length needs) where
  abbrev row_of : List ℕ → List ℕ
  row_of table = take (i * row_length + row_length - i * row_length) (drop (i * row_length) table)

  word_of : (table : List ℕ) (k : ℕ) → k < row_length → get_or (row_of table) k 0 ≡ cell table i k
  word_of table k l = ap (λ (w : List ℕ). get_or w k 0) (lent table i) ∙ row_word table i k l

  pub effects_more : {besides₁ p q : List ℕ} {del : ℕ} → length besides₁ ≡ table_length → del ≡ get_or dels i 0
      → RowPut (λ k. choose (bit k del) 0 (cell r i k)) width i besides besides₁
      → p ≡ mates_of needs interferers live (row_of r) i (row_of mates) → q ≡ beside_of needs adds interferers live (row_of r) i (row_of besides₁)
      → Effects needs adds dels interferers live r width (i + 1) (put_mid (i * row_length) (i * row_length + row_length - i * row_length) mates p)
      (put_mid (i * row_length) (i * row_length + row_length - i * row_length) besides₁ q)
  unfolding mates_of mate_of beside_of beside_for with_prop
  effects_more {besides₁} {p} {q} long del kept e d =
      let paired = lent_row mates i _ s.pairs.long h e in
      let joined = row_again (beside_for needs adds dels interferers live r i) kept s.narrow (lent_row besides₁ i _ long h d) (λ k l u.
      ap₂ (λ (x : ℕ) (w : List ℕ). union (union x (join_of row_length (independent_of needs interferers i) (λ j. keep (bit k (get_or adds j 0)) (with_independent needs live w i j))))
      (keep (bit k (get_or adds i 0)) (get_or live i 0)))
      (word_of besides₁ k (omega (arith, s.narrow)) ∙ u ∙ ap (λ (x : ℕ). choose (bit k x) 0 (cell r i k)) del) (lent r i)) in
      record {
        narrow = s.narrow;
        pairs = rows_row s.pairs (inr refl) (lent_long mates i _ s.pairs.long h e) paired (λ k l.
            ap₂ (λ (w : List ℕ) (x : ℕ). choose (same k i) (get_or live i 0) (choose (bit k (independent_of needs interferers i)) (with_independent needs live w i k) x))
            (lent r i) (word_of mates k l ∙ s.empty i k (omega arith) effect l));
        empty = λ j k l g m. paired.stays j k m (λ u. omega arith) ∙ s.empty j k (omega arith) g m;
        with_adders_lem = rows_row s.with_adders_lem parts (lent_long besides₁ i _ long h d) joined (λ k l. refl);
      }
