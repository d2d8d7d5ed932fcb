-- Rows of tables: written by one step after another, and lent.
-- Assumes nothing.
use Prim.Native.Nat.{ℕ, ◌+◌, ◌-◌, ◌*◌, ◌≤◌, ◌<◌, ◌^◌}
use mathlib.Core.Path.{◌≡◌, refl, sym, ap, ap₂, subst, ◌∙◌}
use mathlib.Core.Bool.{Bool}
use mathlib.Core.Logic.{⊎_elim}
use mathlib.Core.List.{List}
use native.Mathlib.Omega.{arith}
use native.Mathlib.Nat.{lt_of_lt_of_le}
use borrow.Rule.Slice.PartMut.{put_mid}
use lib.Bits.{or_zero_r}
use lib.Count.{count_trailing_zeros}
use lib.ListN.{length, get_or, take, drop, set, length-drop}
use lib.Pow.{pow_mono}
use lib.Seq.{get_or-take, get_or-drop, length-take-le, get_or-set_same, get_or-set_other}
use Rattle.rules.specs.Test.{◌and◌, same, choose}
use Rattle.rules.specs.Word.{bit, common, union, without, single, first}
use Rattle.rules.specs.Over.{join_of, meet_of}
use Rattle.rules.specs.Lists.{list_over}
use Rattle.rules.proofs.Layers.{length_list_over, list_over_eq}
use Rattle.rules.proofs.Words.{bit_common, bit_first}
use Rattle.rules.proofs.Tests.{choose_held, choose_failed, holds_or, same_of, same_at, fails_at, below_of}
use Rattle.words.specs.Memory.{put_at}
use Rattle.words.specs.Width.{word_width}
use Rattle.words.specs.Rows.{row_length, table_length, cell, InParts, Inside}
use Rattle.words.proofs.Writes.{put_part}
use Rattle.words.proofs.Lowest.{Upper, upper_none, upper_more, upper_is}
use Rattle.words.proofs.MemberLoops.{Shares, shares_none, shares_more, meet_from, lowest_lt}
use Rattle.words.proofs.Cells.{Rows, rows_more, row_length_lem, cell_put, cell_stays}
use Rattle.together.specs.Cells.{RowPut, row_in, with_effect}
use Rattle.rules.proofs.Members.{join_empty, meet_only}

-- a part of a row or all of it is within the row
pub parts_le : {width : ℕ} → InParts width → width ≤ row_length
parts_le p = ⊎_elim (λ e. omega arith) (λ e. omega arith) p

-- and so is a set of its words
pub parts_lt : {width set : ℕ} → InParts width → set < 2 ^ width → set < 2 ^ row_length
parts_lt p h = lt_of_lt_of_le h (pow_mono (parts_le p))

-- one of these sets
pub inside_lt : {n x : ℕ} (m : ℕ) (sets : List ℕ) (i : ℕ) → Inside n sets → n ≤ m → i < length sets → x ≡ get_or sets i 0 → x < 2 ^ m
inside_lt m sets i inside h l e = subst (λ (y : ℕ). y < 2 ^ m) (sym e) (lt_of_lt_of_le (inside i l) (pow_mono h))

-- ---- a row that is written

pub row_put : {f : ℕ → ℕ} {m row : ℕ} {w w' : List ℕ} → length w ≡ table_length → row < row_length → m ≤ row_length
    → w' ≡ put_at (row * row_length) (list_over m f) w → RowPut f m row w w'
row_put {f} {m} {row} {w} whole h few e = record {
  is = λ k l. ap (λ (t : List ℕ). cell t row k) e ∙ cell_put row m f w whole h few k l;
  stays = λ i k l other. ap (λ (t : List ℕ). cell t i k) e ∙ cell_stays row m f w whole h few i k l other;
}

-- one word of it
pub row_set : (row col v : ℕ) {at : ℕ} {w : List ℕ} → length w ≡ table_length → row < row_length → col < row_length → at ≡ row * row_length + col
    → RowPut (λ k. choose (same col k) v (cell w row k)) row_length row w (set w at v)
unfolding cell
row_set row col v {at} {w} whole h l e = record {
  is = λ k g. ⊎_elim
      (λ u.
      let p : row * row_length + k ≡ at = omega (arith, same_at u) in
      ap (λ (x : ℕ). get_or (set w at v) x 0) p ∙ get_or-set_same w at v 0 (omega arith) ∙ sym (choose_held _ u))
      (λ u. get_or-set_other w at (row * row_length + k) v 0 (λ p. fails_at u (same_of (omega arith))) ∙ sym (choose_failed (same col k) v u))
      (holds_or (same col k));
  stays = λ i k g other. get_or-set_other w at (i * row_length + k) v 0 (λ p. other (omega arith));
}

-- a row written again, from what stood there
pub row_again : {f g : ℕ → ℕ} (h : ℕ → ℕ) {width m row : ℕ} {w₀ w₁ w₂ : List ℕ} → RowPut f width row w₀ w₁ → width ≤ m → RowPut g m row w₁ w₂
    → ((k : ℕ) → k < width → cell w₁ row k ≡ f k → g k ≡ h k) → RowPut h width row w₀ w₂
row_again h {width} {m} {row} one few two e = record {
  is = λ k l. two.is k (omega arith) ∙ e k l (one.is k l);
  stays = λ i k l other. two.stays i k l other ∙ one.stays i k l other;
}

-- a table filled row by row
pub rows_row : {f : ℕ → ℕ → ℕ} {g : ℕ → ℕ} {width i : ℕ} {w w' : List ℕ} → Rows f width i w → InParts width → length w' ≡ table_length → RowPut g width i w w'
    → ((k : ℕ) → k < width → g k ≡ f i k) → Rows f width (i + 1) w'
rows_row s parts whole put e = rows_more s whole
    (λ j k h l. put.stays j k (omega (arith, parts_le parts)) (λ q. omega arith))
    (λ k l. put.is k l ∙ e k l)

-- a row copied, and emptied where a set says so
pub keep_put : (r : List ℕ) (del : ℕ) {i width : ℕ} {w w₁ w₂ : List ℕ} → length w ≡ table_length → length w₁ ≡ table_length → i < row_length → InParts width
    → w₁ ≡ put_at (i * row_length) (list_over width (λ k. union (cell r i k) (join_of row_length 0 (λ j. cell r j k)))) w
    → w₂ ≡ put_at (i * row_length) (list_over row_length (λ k. choose (bit k del) 0 (cell w₁ i k))) w₁
    → RowPut (λ k. choose (bit k del) 0 (cell r i k)) width i w w₂
keep_put r del {i} long long₁ h parts copied cleared =
    row_again _ (row_put long h (parts_le parts) copied) (parts_le parts) (row_put long₁ h (omega arith) cleared) (λ k l u.
    ap (λ (x : ℕ). choose (bit k del) 0 x) (u ∙ ap (union (cell r i k)) (join_empty row_length _) ∙ or_zero_r (cell r i k)))

-- ---- a row that is lent, from its first word to that of the next row

module _ (table : List ℕ) (i : ℕ) where
  pub lent : take (i * row_length + row_length - i * row_length) (drop (i * row_length) table) ≡ row_in table i
  unfolding row_in
  lent = let e : i * row_length + row_length - i * row_length ≡ row_length = omega arith in ap (λ (n : ℕ). take n (drop (i * row_length) table)) e

  pub row_long : length table ≡ table_length → i < row_length → length (row_in table i) ≡ row_length
  unfolding row_in
  row_long whole h = length-take-le row_length (drop (i * row_length) table) (omega (arith, length-drop (i * row_length) table))

  pub row_word : (k : ℕ) → k < row_length → get_or (row_in table i) k 0 ≡ cell table i k
  unfolding row_in cell
  row_word k h = get_or-take row_length (drop (i * row_length) table) k 0 h ∙ get_or-drop (i * row_length) table k 0

-- made anew
module _ (table : List ℕ) (i : ℕ) (f : ℕ → ℕ) {p : List ℕ} (whole : length table ≡ table_length) (h : i < row_length) (e : p ≡ list_over row_length f) where
  lent_put : put_mid (i * row_length) (i * row_length + row_length - i * row_length) table p ≡ put_at (i * row_length) (list_over row_length f) table
  lent_put = put_part (i * row_length) row_length (list_over row_length f) table p (length_list_over row_length f) e

  pub lent_row : RowPut f row_length i table (put_mid (i * row_length) (i * row_length + row_length - i * row_length) table p)
  lent_row = row_put whole h (omega arith) lent_put

  pub lent_long : length (put_mid (i * row_length) (i * row_length + row_length - i * row_length) table p) ≡ table_length
  lent_long = ap length lent_put ∙ row_length_lem i row_length f table whole h (omega arith)

-- ---- the label of an effect, while some needs are left

pub record Labels (all : ℕ) (t : List ℕ) (need left label : ℕ) : Type 0 where
  pub shares : Shares (λ p. meet_of row_length (without need (first p)) (cell t p) all) all row_length need left label
  pub upper : Upper need left

pub labels_none : {all : ℕ} {t : List ℕ} {need : ℕ} → need < 2 ^ row_length → Labels all t need need all
labels_none h = record { shares = shares_none h; upper = upper_none }

module _ {all : ℕ} {t : List ℕ} {need left label p : ℕ} (m : Labels all t need left label) (some : 0 < left) (low : p ≡ count_trailing_zeros word_width left) where
  -- the lowest of them is the number of a row
  pub labels_row : p < row_length
  labels_row = subst (λ (x : ℕ). x < row_length) (sym low) (lowest_lt row_length left (omega arith) m.shares.inside some)

  -- and that row is lent
  pub labels_more : {left' r : ℕ} → length t ≡ table_length → left' ≡ without left (single (count_trailing_zeros word_width left)) → (row : List ℕ) → row ≡ row_in t p
      → r ≡ meet_of (length row) left (λ q. get_or row q 0) label → Labels all t need left' r
  labels_more long e row u met =
      let few : row_length ≤ word_width = omega arith in
      let inside : left < 2 ^ word_width = lt_of_lt_of_le m.shares.inside (pow_mono few) in
      record {
        shares = shares_more m.shares few some
            (ap₂ (λ (x y : ℕ). meet_of row_length x (cell t y) all) (upper_is word_width m.upper inside some) low)
            (met ∙ ap (λ (n : ℕ). meet_of n left (λ q. get_or row q 0) label) (ap length u ∙ row_long t p long labels_row)
            ∙ meet_only left label (λ q h _. ap (λ (l : List ℕ). get_or l q 0) u ∙ row_word t p q h)
            ∙ meet_from row_length left all label (cell t p) m.shares.part)
            e;
        upper = upper_more word_width m.upper inside e;
      }

-- a set cut to the words of a row: it names those of them that the whole set names
cut_bit : (x : ℕ) {named k : ℕ} → named ≡ common (first row_length) x → k < row_length → bit k named ≡ bit k x
unfolding ◌and◌
cut_bit x {named} {k} e l =
    ap (bit k) e ∙ bit_common k (first row_length) x ∙ ap (λ (b : Bool). b and bit k x) (bit_first k row_length ∙ below_of l)

pub cut_cleared : (x row : ℕ) (w : List ℕ) {named : ℕ} {w' : List ℕ} → named ≡ common (first row_length) x
    → w' ≡ put_at (row * row_length) (list_over row_length (λ k. choose (bit k named) 0 (cell w row k))) w
    → w' ≡ put_at (row * row_length) (list_over row_length (λ k. choose (bit k x) 0 (cell w row k))) w
cut_cleared x row w {named} e put =
    put ∙ ap (λ (l : List ℕ). put_at (row * row_length) l w) (list_over_eq (λ k l. ap (λ (b : Bool). choose b 0 (cell w row k)) (cut_bit x e l)))

-- ---- a row of an effect with the effects: met, emptied where they interfere, and with itself

module _ (needs interferers live turned : List ℕ) {i width : ℕ} {w w₁ w₂ : List ℕ} (parts : InParts width) (h : i < row_length) (long : length w ≡ table_length)
    (long₁ : length w₁ ≡ table_length) (long₂ : length w₂ ≡ table_length) where
  pub pairs_put : {named : ℕ} → named ≡ get_or needs i 0
      → w₁ ≡ put_at (i * row_length) (list_over width (λ k. meet_of row_length named (λ p. cell turned p k) (common (get_or live k 0) (get_or live i 0)))) w
      → w₂ ≡ put_at (i * row_length) (list_over row_length (λ k. choose (bit k (get_or interferers i 0)) 0 (cell w₁ i k))) w₁
      → RowPut (with_effect needs interferers live turned i) width i w (set w₂ (i * row_length + i) (get_or live i 0))
  unfolding with_effect
  pairs_put {named} e met cleared =
      let inside = parts_le parts in
      let one = row_put long h inside met in
      let two : RowPut (λ k. choose (bit k (get_or interferers i 0)) 0 (meet_of row_length (get_or needs i 0) (λ p. cell turned p k) (common (get_or live k 0) (get_or live i 0)))) width i w w₂ =
      row_again _ one inside (row_put long₁ h (omega arith) cleared) (λ k l q. ap (λ (x : ℕ). choose (bit k (get_or interferers i 0)) 0 x)
      (q ∙ ap (λ (set : ℕ). meet_of row_length set (λ p. cell turned p k) (common (get_or live k 0) (get_or live i 0))) e)) in
      row_again _ two inside (row_set i i (get_or live i 0) long₂ h h refl) (λ k l q. ap (λ (x : ℕ). choose (same i k) (get_or live i 0) x) q)
