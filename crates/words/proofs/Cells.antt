-- Tables of words: a row that is written, rows filled one after the other, cells emptied.
-- Assumes nothing.
use Prim.Native.Nat.{ℕ, ◌+◌, ◌-◌, ◌*◌, ◌^◌, ◌≤◌, ◌<◌}
use mathlib.Core.Path.{◌≡◌, refl, sym, ap, ap₂, subst, ◌∙◌}
use mathlib.Core.Bool.{Bool, So}
use mathlib.Core.Logic.{⊎_elim}
use mathlib.Core.List.{List, ◌++◌}
use native.Mathlib.Nat.{zero-add, mod-eq_of_lt}
use native.Mathlib.Omega.{arith}
use lib.Bits.{and_mask}
use lib.Count.{count_trailing_zeros}
use borrow.Rule.Slice.PartMut.{put_mid}
use lib.ListN.{length, get_or, take, drop, set, length-set, length-drop}
use lib.Seq.{get_or-set_same, get_or-set_other, get_or-take, get_or-drop, length-take-le}
use Rattle.rules.specs.Test.{◌and◌, fails, choose, same}
use Rattle.rules.specs.Word.{bit, common, without, single, first}
use Rattle.rules.specs.Lists.{list_over}
use Rattle.rules.proofs.Layers.{length_list_over, get_d_list_over, list_over_eq, list_append, which}
use Rattle.rules.proofs.Overs.{below_suc}
use Rattle.rules.proofs.Tests.{choose_held, choose_failed, and_of, and_left, and_right, fails_of, fails_at, holds_or, test_eq, same_of, same_at}
use Rattle.rules.proofs.Words.{bit_zero, no_bit_zero, without_lt}
use Rattle.words.specs.Memory.{put_at}
use Rattle.words.specs.Rows.{row_length, part_length, table_length, cell, InParts}
use Rattle.words.specs.Width.{word_width}
use Rattle.words.proofs.MemberLoops.{lowest_in, lowest_lt}
use Rattle.words.proofs.Spreads.{bit_left, stays}
use Rattle.words.proofs.Writes.{put_length, put_word, put_put, put_below, put_above, put_over, put_same, put_inside}

-- word k from column `col` on of row i, by its place
pub cell_at : (table : List ℕ) (i col k : ℕ) {at : ℕ} → at ≡ i * row_length + col → get_or table (at + k) 0 ≡ cell table i (col + k)
unfolding cell
cell_at table i col k {at} e = let p : at + k ≡ i * row_length + (col + k) = omega arith in ap (λ (x : ℕ). get_or table x 0) p

-- a word that is written, and every other one
pub cell_set : (w : List ℕ) (i j v : ℕ) {at : ℕ} → at ≡ i * row_length + j → at < length w → cell (set w at v) i j ≡ v
unfolding cell
cell_set w i j v {at} e h = ap (λ (x : ℕ). get_or (set w at v) x 0) (sym e) ∙ get_or-set_same w at v 0 h

pub cell_set_other : (w : List ℕ) (i j v : ℕ) {at : ℕ} → (i * row_length + j ≡ at → ⊥) → cell (set w at v) i j ≡ cell w i j
unfolding cell
cell_set_other w i j v {at} d = get_or-set_other w at (i * row_length + j) v 0 d

-- a word cut to all bits
pub cut_none : (x : ℕ) → x < 2 ^ word_width → common x (first word_width) ≡ x
cut_none x h = and_mask x word_width ∙ mod-eq_of_lt h

-- ---- a row that is written, from its first word on

module _ (row m : ℕ) (f : ℕ → ℕ) (w : List ℕ) (whole : length w ≡ table_length) (h : row < row_length) (few : m ≤ row_length) where
  room : row * row_length + length (list_over m f) ≤ length w
  room = omega (arith, length_list_over m f)

  pub row_length_lem : length (put_at (row * row_length) (list_over m f) w) ≡ table_length
  row_length_lem = put_length (row * row_length) (list_over m f) w room ∙ whole

  -- its words
  pub cell_put : (k : ℕ) → k < m → cell (put_at (row * row_length) (list_over m f) w) row k ≡ f k
  unfolding cell
  cell_put k l = put_word (row * row_length) (list_over m f) w room k (omega (arith, length_list_over m f)) ∙ get_d_list_over f l

  -- every other row stays
  pub cell_stays : (i j : ℕ) → j < row_length → (i ≡ row → ⊥) → cell (put_at (row * row_length) (list_over m f) w) i j ≡ cell w i j
  unfolding cell
  cell_stays i j l other = ⊎_elim
      (λ le. put_below (row * row_length) (list_over m f) w room (i * row_length + j) (omega arith))
      (λ le. put_above (row * row_length) (list_over m f) w room (i * row_length + j) (omega (arith, length_list_over m f)))
      (which i row)

-- ---- a row that is lent, from its first word to that of the next row

module _ (row : ℕ) (w : List ℕ) (whole : length w ≡ table_length) (h : row < row_length) where
  count : row * row_length + row_length - row * row_length ≡ row_length
  count = omega arith

  pub lent_length : length (take (row * row_length + row_length - row * row_length) (drop (row * row_length) w)) ≡ row_length
  lent_length = ap (λ (x : ℕ). length (take x (drop (row * row_length) w))) count
      ∙ length-take-le row_length (drop (row * row_length) w) (omega (arith, length-drop (row * row_length) w))

  pub lent_word : (k : ℕ) → k < row_length → get_or (take (row * row_length + row_length - row * row_length) (drop (row * row_length) w)) k 0 ≡ cell w row k
  unfolding cell
  lent_word k l = ap (λ (x : ℕ). get_or (take x (drop (row * row_length) w)) k 0) count
      ∙ get_or-take row_length (drop (row * row_length) w) k 0 l ∙ get_or-drop (row * row_length) w k 0

  -- and comes back with words put at its front
  pub lent_put : {width : ℕ} (f : ℕ → ℕ) {p : List ℕ} → InParts width
      → p ≡ put_at 0 (list_over width f) (take (row * row_length + row_length - row * row_length) (drop (row * row_length) w))
      → put_mid (row * row_length) (row * row_length + row_length - row * row_length) w p ≡ put_at (row * row_length) (list_over width f) w
  lent_put {width} f {p} parts e =
      let few : width ≤ row_length = ⊎_elim (λ q. omega arith) (λ q. omega arith) parts in
      put_inside (row * row_length) row_length (list_over width f) w p (omega (arith, length_list_over width f)) (omega arith) e

-- ---- a row of one part or two, that is put by parts

module _ (w : List ℕ) {w₁ : List ℕ} (whole : length w ≡ row_length) (g : ℕ → ℕ) (e : w₁ ≡ put_at 0 (list_over part_length (λ k. g (0 + k))) w) where
  first_part : w₁ ≡ put_at 0 (list_over part_length g) w
  first_part = e ∙ ap (λ (l : List ℕ). put_at 0 l w) (list_over_eq (λ k h. ap g (zero-add k)))

  pub row_narrow : (width : ℕ) → InParts width → width ≤ part_length → w₁ ≡ put_at 0 (list_over width g) w
  row_narrow width parts h =
      let one : width ≡ part_length = ⊎_elim (λ q. q) (λ q. absurd (omega arith)) parts in
      first_part ∙ ap (λ (n : ℕ). put_at 0 (list_over n g) w) (sym one)

  -- the second part is made while the first is put already
  pub row_wide : (width : ℕ) {w₂ : List ℕ} {g₂ : ℕ → ℕ} → InParts width → part_length < width → ((k : ℕ) → g₂ k ≡ g (part_length + k))
      → w₂ ≡ put_at part_length (list_over part_length g₂) w₁ → w₂ ≡ put_at 0 (list_over width g) w
  row_wide width {w₂} {g₂} parts h same_words d =
      let two : width ≡ row_length = ⊎_elim (λ q. absurd (omega arith)) (λ q. q) parts in
      let l : length (list_over part_length g) ≡ part_length = length_list_over part_length g in
      d ∙ ap₂ (λ (x : ℕ) (v : List ℕ). put_at x (list_over part_length g₂) v) (sym (zero-add (length (list_over part_length g)) ∙ l)) first_part
      ∙ put_put 0 (list_over part_length g) w (omega (arith, l)) (list_over part_length g₂)
      ∙ ap (λ (v : List ℕ). put_at 0 (list_over part_length g ++ v) w) (list_over_eq (λ k h. same_words k))
      ∙ ap (λ (v : List ℕ). put_at 0 v w) (sym (list_append part_length part_length g) ∙ ap (λ (n : ℕ). list_over n g) (sym two))

-- ---- a table filled row by row: i rows are filled, with f row by row

pub record Rows (f : ℕ → ℕ → ℕ) (width i : ℕ) (w : List ℕ) : Type 0 where
  pub long : length w ≡ table_length
  pub is : (j k : ℕ) → j < i → k < width → cell w j k ≡ f j k

pub rows_none : {f : ℕ → ℕ → ℕ} {width : ℕ} {w : List ℕ} → length w ≡ table_length → Rows f width 0 w
rows_none e = record { long = e; is = λ j k h. absurd (omega arith) }

pub rows_more : {f : ℕ → ℕ → ℕ} {width i : ℕ} {w w' : List ℕ} → Rows f width i w → length w' ≡ table_length
    → ((j k : ℕ) → j < i → k < width → cell w' j k ≡ cell w j k) → ((k : ℕ) → k < width → cell w' i k ≡ f i k) → Rows f width (i + 1) w'
rows_more {f} {width} {i} {w} {w'} s e old new = record {
  long = e;
  is = λ j k h l. below_suc (new k l) (λ j h. old j k h l ∙ s.is j k h l) (omega arith);
}

-- by a row that is put
pub rows_put : {f : ℕ → ℕ → ℕ} {width i : ℕ} {w w' : List ℕ} → Rows f width i w → i < row_length → width ≤ row_length
    → w' ≡ put_at (i * row_length) (list_over width (f i)) w → Rows f width (i + 1) w'
rows_put {f} {width} {i} {w} {w'} s h few e = rows_more s (ap length e ∙ row_length_lem i width (f i) w s.long h few)
    (λ j k l g. ap (λ (t : List ℕ). cell t j k) e ∙ cell_stays i width (f i) w s.long h few j k (omega arith) (λ q. omega arith))
    (λ k g. ap (λ (t : List ℕ). cell t i k) e ∙ cell_put i width (f i) w s.long h few k g)

-- emptied or empty
choose_zero : (b : Bool) → choose {A = ℕ} b 0 0 ≡ 0
choose_zero b = ⊎_elim (λ t. choose_held 0 t) (λ t. choose_failed b 0 t) (holds_or b)

-- ---- a loop that empties the cells of a row that a set names: what is still to be done gives what is to be done at first

-- the table with these cells of a row emptied
pub emptied : ℕ → ℕ → List ℕ → List ℕ
emptied row set w = put_at (row * row_length) (list_over row_length (λ k. choose (bit k set) 0 (cell w row k))) w

pub record Clears (row set₀ : ℕ) (w₀ : List ℕ) (left : ℕ) (w : List ℕ) : Type 0 where
  pub inside : left < 2 ^ row_length
  pub long : length w ≡ length w₀
  pub is : emptied row left w ≡ emptied row set₀ w₀

pub clears_none : {row set : ℕ} {w : List ℕ} → set < 2 ^ row_length → Clears row set w set w
clears_none h = record { inside = h; long = refl; is = refl }

pub clears_more : {row set₀ left left' q at : ℕ} {w₀ w : List ℕ} → Clears row set₀ w₀ left w → length w₀ ≡ table_length → row < row_length → 0 < left
    → q ≡ count_trailing_zeros word_width left → at ≡ row * row_length + q → left' ≡ without left (single (count_trailing_zeros word_width left))
    → Clears row set₀ w₀ left' (set w at 0)
unfolding emptied cell
clears_more {row} {set₀} {left} {left'} {q} {at} {w₀} {w} s whole h some e ea g =
    let w' = set w at 0 in
    let base = row * row_length in
    let low : q < row_length = omega (arith, lowest_lt row_length left (omega arith) s.inside some) in
    let in_left : So (bit q left) = ap (λ (x : ℕ). bit x left) e ∙ lowest_in row_length left (omega arith) s.inside some in
    let g' : left' ≡ without left (single q) = g ∙ ap (λ (x : ℕ). without left (single x)) (sym e) in
    let same_words : list_over row_length (λ k. choose (bit k left') 0 (get_or w' (base + k) 0)) ≡ list_over row_length (λ k. choose (bit k left) 0 (get_or w (base + k) 0)) =
    list_over_eq (λ k l. ⊎_elim
    (λ u.
    let k_at : base + k ≡ at = omega (arith, same_at u) in
    ap (λ (x : ℕ). choose (bit k left') 0 x) (ap (λ (x : ℕ). get_or w' x 0) k_at ∙ get_or-set_same w at 0 0 (omega (arith, s.long)))
    ∙ choose_zero (bit k left')
    ∙ sym (choose_held (get_or w (base + k) 0) (ap (λ (x : ℕ). bit x left) (same_at u) ∙ in_left)))
    (λ u. ap₂ (λ (b : Bool) (x : ℕ). choose b 0 x) (bit_left k q left left' g' ∙ stays (bit k left) (same k q) u)
    (get_or-set_other w at (base + k) 0 0 (λ r. fails_at u (same_of (omega arith)))))
    (holds_or (same k q))) in
    record {
      inside = subst (λ (x : ℕ). x < 2 ^ row_length) (sym g) (without_lt row_length _ s.inside);
      long = length-set w at 0 ∙ s.long;
      is = ap (λ (l : List ℕ). put_at base l w') same_words
          ∙ ap (λ (x : ℕ). put_at base (list_over row_length (λ k. choose (bit k left) 0 (get_or w (base + k) 0))) (set w x 0)) ea
          ∙ put_over base (list_over row_length (λ k. choose (bit k left) 0 (get_or w (base + k) 0))) w
          (omega (arith, s.long, length_list_over row_length (λ k. choose (bit k left) 0 (get_or w (base + k) 0)))) q 0
          (omega (arith, length_list_over row_length (λ k. choose (bit k left) 0 (get_or w (base + k) 0))))
          ∙ s.is;
    }

pub clears_done : {row set₀ left : ℕ} {w₀ w : List ℕ} → Clears row set₀ w₀ left w → length w₀ ≡ table_length → row < row_length → left ≤ 0
    → w ≡ put_at (row * row_length) (list_over row_length (λ k. choose (bit k set₀) 0 (cell w₀ row k))) w₀
unfolding emptied cell choose
clears_done {row} {set₀} {left} {w₀} {w} s whole h none =
    let e : left ≡ 0 = omega arith in
    sym (put_same (row * row_length) row_length w (omega (arith, s.long)))
    ∙ ap (λ (l : List ℕ). put_at (row * row_length) l w) (list_over_eq (λ k l.
    ap (λ (b : Bool). choose b 0 (get_or w (row * row_length + k) 0)) (sym (ap (bit k) e ∙ bit_zero k))))
    ∙ s.is

-- ---- the same of the rows of a column: word by word

pub record ColumnClears (column set₀ : ℕ) (w₀ : List ℕ) (left : ℕ) (w : List ℕ) : Type 0 where
  pub inside : left < 2 ^ row_length
  pub long : length w ≡ length w₀
  pub is : (p q : ℕ) → q < row_length → choose (same q column and bit p left) 0 (cell w p q) ≡ choose (same q column and bit p set₀) 0 (cell w₀ p q)

pub column_none : {column set : ℕ} {w : List ℕ} → set < 2 ^ row_length → ColumnClears column set w set w
column_none h = record { inside = h; long = refl; is = λ p q h. refl }

pub column_more : {column set₀ left left' row at : ℕ} {w₀ w : List ℕ} → ColumnClears column set₀ w₀ left w → length w₀ ≡ table_length → column < row_length
    → 0 < left → row ≡ count_trailing_zeros word_width left → at ≡ row * row_length + column → left' ≡ without left (single (count_trailing_zeros word_width left))
    → ColumnClears column set₀ w₀ left' (set w at 0)
unfolding cell
column_more {column} {set₀} {left} {left'} {row} {at} {w₀} {w} s whole h some e ea g =
    let low : row < row_length = omega (arith, lowest_lt row_length left (omega arith) s.inside some) in
    let in_left : So (bit row left) = ap (λ (x : ℕ). bit x left) e ∙ lowest_in row_length left (omega arith) s.inside some in
    let g' : left' ≡ without left (single row) = g ∙ ap (λ (x : ℕ). without left (single x)) (sym e) in
    record {
      inside = subst (λ (x : ℕ). x < 2 ^ row_length) (sym g) (without_lt row_length _ s.inside);
      long = length-set w at 0 ∙ s.long;
      is = λ p q l. ⊎_elim
          (λ u.
          let here : p * row_length + q ≡ at = omega (arith, same_at (and_left _ u), same_at (and_right _ u)) in
          ap (choose (same q column and bit p left') 0) (ap (λ (x : ℕ). get_or (set w at 0) x 0) here ∙ get_or-set_same w at 0 0 (omega (arith, s.long)))
          ∙ choose_zero (same q column and bit p left')
          ∙ sym (choose_held (get_or w (p * row_length + q) 0) (and_of (and_left _ u) (ap (λ (x : ℕ). bit x left) (same_at (and_right _ u)) ∙ in_left)))
          ∙ s.is p q l)
          (λ u. ap₂ (λ (b : Bool) (x : ℕ). choose b 0 x) (elsewhere p q g' u)
          (get_or-set_other w at (p * row_length + q) 0 0 (λ r. fails_at u (and_of (same_of (omega arith)) (same_of (omega arith)))))
          ∙ s.is p q l)
          (holds_or (same q column and same p row));
    }
  where
    elsewhere : (p q : ℕ) → left' ≡ without left (single row) → So (fails (same q column and same p row))
        → (same q column and bit p left') ≡ (same q column and bit p left)
    elsewhere p q d u = test_eq
        (λ t. and_of (and_left _ t) (and_left _ (sym (bit_left p row left left' d) ∙ and_right _ t)))
        (λ t. and_of (and_left _ t) (bit_left p row left left' d ∙ and_of (and_right _ t) (fails_of (λ x. fails_at u (and_of (and_left _ t) x)))))

pub column_done : {column set₀ left : ℕ} {w₀ w : List ℕ} → ColumnClears column set₀ w₀ left w → left ≤ 0
    → (p q : ℕ) → q < row_length → cell w p q ≡ choose (same q column and bit p set₀) 0 (cell w₀ p q)
column_done {column} {set₀} {left} {w₀} {w} s none p q l =
    let e : left ≡ 0 = omega arith in
    sym (choose_failed (same q column and bit p left) 0 (fails_of (λ t. no_bit_zero p (ap (bit p) (sym e) ∙ and_right _ t)))) ∙ s.is p q l
