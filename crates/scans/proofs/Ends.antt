-- The end of a step: the table grows label by label and pair by pair, and the layer is written beside.
-- Assumes nothing.
use Prim.Native.Nat.{ℕ, ◌+◌, ◌-◌, ◌*◌, ◌≤◌, ◌<◌}
use mathlib.Core.Path.{◌≡◌, refl, sym, ap, ap₂, subst, ◌∙◌}
use mathlib.Core.Logic.{⊎_elim}
use mathlib.Core.List.{List}
use native.Mathlib.Omega.{arith}
use lib.Bits.{bit_xor, or_comm, or_self, or_add_and, xor_add_and, and_le_l, and_le_r}
use lib.ListN.{length, get_or, set, length-set}
use Rattle.rules.specs.Test.{same}
use Rattle.rules.specs.Word.{common, union, without}
use Rattle.rules.specs.Lists.{list_over, run_over}
use Rattle.rules.specs.Layer.{size, row_of, layer_of}
use Rattle.rules.specs.Together.{layer_by}
use Rattle.rules.proofs.Tests.{fails_at, holds_or, same_of, same_at}
use Rattle.rules.proofs.Overs.{below_suc}
use Rattle.rules.proofs.Layers.{length_list_over, list_over_eq, layer_eq, size_pairs, pairs_row, pairs_sub, length_rows, which}
use Rattle.words.specs.Memory.{put_at}
use Rattle.words.specs.Rows.{row_length, table_length, cell, both_ways, grown}
use Rattle.words.proofs.Writes.{Lists, list_none, list_more, Runs, run_more, put_behind, front_word}
use Rattle.words.proofs.Cells.{cell_set, cell_set_other}
use Rattle.scans.specs.Ends.{own, apart_by, Owned, Crossed, Joined, Turns, Finished}

-- ---- words that did not change

none_left : (a b : ℕ) → union a b ≡ 0 → a ≡ 0
none_left a b e = omega (arith, or_add_and a b, and_le_r a b)

none_right : (a b : ℕ) → union a b ≡ 0 → b ≡ 0
none_right a b e = omega (arith, or_add_and a b, and_le_l a b)

same_words : (a b : ℕ) → bit_xor a b ≡ 0 → a ≡ b
same_words a b z = omega (arith, xor_add_and a b, and_le_l a b, and_le_r a b)

-- ---- the labels

pub owned_none : {spare t : List ℕ} → length t ≡ table_length → Owned 0 spare t t 0
owned_none e = record { long = e; here = λ i l. absurd (omega arith); others = λ i j l d. refl; still = λ e i l. absurd (omega arith) }

pub owned_more : {p at fresh old word fresh' : ℕ} {spare t t' : List ℕ} → Owned p spare t t' fresh → p < row_length → at ≡ p * row_length + p
    → old ≡ cell t' p p → word ≡ union (cell spare p p) old → fresh' ≡ union fresh (bit_xor word old)
    → Owned (p + 1) spare t (set t' at word) fresh' × (word ≡ own spare t p)
unfolding own grown both_ways
owned_more {p} {at} {fresh} {old} {word} {fresh'} {spare} {t} {t'} s h e eo ew ef =
    let was : old ≡ cell t p p = eo ∙ s.others p p h (λ q. omega arith) in
    let is : word ≡ own spare t p = ew ∙ ap₂ union (sym (or_self (cell spare p p))) was in (
      record {
        long = length-set t' at word ∙ s.long;
        here = λ i l. below_suc {P = λ i. cell (set t' at word) i i ≡ own spare t i}
            (cell_set t' p p word e (omega (arith, s.long)) ∙ is)
            (λ i l. cell_set_other t' i i word (λ q. omega arith) ∙ s.here i l) (omega arith);
        others = λ i j l d. cell_set_other t' i j word (λ q. omega (arith, d (omega arith))) ∙ s.others i j l (λ q. omega (arith, d q));
        still = λ z i l. below_suc {P = λ i. own spare t i ≡ cell t i i}
            (sym is ∙ same_words word old (none_right fresh (bit_xor word old) (sym ef ∙ z)) ∙ was)
            (λ i l. s.still (none_left fresh (bit_xor word old) (sym ef ∙ z)) i l) (omega arith);
      },
      is,
    )

pub owned_done : {p n fresh : ℕ} {spare t t' : List ℕ} → Owned p spare t t' fresh → p ≤ n → n ≤ p → Owned n spare t t' fresh
owned_done {p} {n} {fresh} {spare} {t} {t'} s h l = let e : p ≡ n = omega arith in subst (λ (x : ℕ). Owned x spare t t' fresh) e s

-- ---- the pairs of p

pub crossed_none : {p : ℕ} {spare t : List ℕ} → length t ≡ table_length → Crossed p (p + 1) spare t t 0
crossed_none e = record {
  long = e;
  here = λ j l h. absurd (omega arith);
  turned = λ j l h. absurd (omega arith);
  others = λ i j l d d'. refl;
  still = λ e j l h. absurd (omega arith);
}

pub crossed_more : {p q at turn fresh old word fresh' : ℕ} {spare t t' : List ℕ} → Crossed p q spare t t' fresh → p < q → q < row_length
    → at ≡ p * row_length + q → turn ≡ q * row_length + p → old ≡ cell t' p q → word ≡ union (both_ways spare p q) old → fresh' ≡ union fresh (bit_xor word old)
    → Crossed p (q + 1) spare t (set (set t' at word) turn word) fresh' × (word ≡ grown spare t p q)
unfolding grown
crossed_more {p} {q} {at} {turn} {fresh} {old} {word} {fresh'} {spare} {t} {t'} s pq h e e' eo ew ef =
    let was : old ≡ cell t p q = eo ∙ s.others p q h (λ a b. omega arith) (λ a b. omega arith) in
    let is : word ≡ grown spare t p q = ew ∙ ap (union (both_ways spare p q)) was in
    let t₁ = set t' at word in
    let long : length t₁ ≡ table_length = length-set t' at word ∙ s.long in
    let far : (i j : ℕ) → (i * row_length + j ≡ at → ⊥) → (i * row_length + j ≡ turn → ⊥) → cell (set t₁ turn word) i j ≡ cell t' i j =
    (λ i j d d'. cell_set_other t₁ i j word d' ∙ cell_set_other t' i j word d) in (
      record {
        long = length-set t₁ turn word ∙ long;
        here = λ j l k. below_suc {P = λ j. p < j → cell (set t₁ turn word) p j ≡ grown spare t p j}
            (λ l. cell_set_other t₁ p q word (λ a. omega arith) ∙ cell_set t' p q word e (omega (arith, s.long)) ∙ is)
            (λ j k l. far p j (λ a. omega arith) (λ a. omega arith) ∙ s.here j l k) (omega arith) l;
        turned = λ j l k. below_suc {P = λ j. p < j → cell (set t₁ turn word) j p ≡ grown spare t p j}
            (λ l. cell_set t₁ q p word e' (omega (arith, long)) ∙ is)
            (λ j k l. far j p (λ a. omega arith) (λ a. omega arith) ∙ s.turned j l k) (omega arith) l;
        others = λ i j l d d'. far i j
            (λ a. let ei : i ≡ p = omega arith in omega (arith, d ei (omega arith)))
            (λ a. let ej : j ≡ p = omega arith in omega (arith, d' ej (omega arith)))
            ∙ s.others i j l (λ a b. omega (arith, d a b)) (λ a b. omega (arith, d' a b));
        still = λ z j l k. below_suc {P = λ j. p < j → grown spare t p j ≡ cell t p j}
            (λ l. sym is ∙ same_words word old (none_right fresh (bit_xor word old) (sym ef ∙ z)) ∙ was)
            (λ j k l. s.still (none_left fresh (bit_xor word old) (sym ef ∙ z)) j l k) (omega arith) l;
      },
      is,
    )

pub crossed_done : {p q n fresh : ℕ} {spare t t' : List ℕ} → Crossed p q spare t t' fresh → q ≤ n → n ≤ q → Crossed p n spare t t' fresh
crossed_done {p} {q} {n} {fresh} {spare} {t} {t'} s h l = let e : q ≡ n = omega arith in subst (λ (x : ℕ). Crossed p x spare t t' fresh) e s

-- their words: word q of the row that begins at p + 1
pub row_none : (at p n : ℕ) (f : ℕ → ℕ) {w : List ℕ} → p < n → at + n ≤ length w → Lists f (at + p + 1) (n - 1 - p) w (p + 1 - (p + 1)) w
row_none at p n f {w} h room =
    let k : 0 ≡ p + 1 - (p + 1) = omega arith in
    subst (λ (x : ℕ). Lists f (at + p + 1) (n - 1 - p) w x w) k (list_none (omega arith))

pub row_more : (at p q n : ℕ) (f : ℕ → ℕ) {to v : ℕ} {w₀ w : List ℕ} → Lists (λ k. f (p + 1 + k)) (at + p + 1) (n - 1 - p) w₀ (q - (p + 1)) w → p < q → q < n
    → to ≡ at + q → v ≡ f q → Lists (λ k. f (p + 1 + k)) (at + p + 1) (n - 1 - p) w₀ (q + 1 - (p + 1)) (set w to v)
row_more at p q n f {to} {v} {w₀} {w} s pq h e ev =
    let k : q - (p + 1) + 1 ≡ q + 1 - (p + 1) = omega arith in
    let here : q ≡ p + 1 + (q - (p + 1)) = omega arith in
    subst (λ (x : ℕ). Lists (λ k. f (p + 1 + k)) (at + p + 1) (n - 1 - p) w₀ x (set w to v)) k (list_more s (omega arith) (omega arith) (ev ∙ ap f here))

-- ---- all pairs

pub joined_none : {n : ℕ} {spare t : List ℕ} → length t ≡ table_length → Joined n 0 spare t t 0
joined_none e = record {
  long = e;
  upper = λ i j l h k. absurd (omega arith);
  lower = λ i j l h k. absurd (omega arith);
  ahead = λ i j l h k. refl;
  labels = λ i l. refl;
  still = λ e i j l h k. absurd (omega arith);
}

pub joined_done : {n p fresh : ℕ} {spare t t' : List ℕ} → Joined n p spare t t' fresh → p ≤ n → n ≤ p → Joined n n spare t t' fresh
joined_done {n} {p} {fresh} {spare} {t} {t'} s h l = let e : p ≡ n = omega arith in subst (λ (x : ℕ). Joined n x spare t t' fresh) e s

module _ {n p fresh : ℕ} {spare t t' : List ℕ} (s : Joined n p spare t t' fresh) (h : p < n) (few : n ≤ row_length) where
  -- what row p grows to is what it was to grow to
  ahead_grown : (j : ℕ) → p < j → j < n → grown spare t' p j ≡ grown spare t p j
  unfolding grown
  ahead_grown j l k = ap (union (both_ways spare p j)) (s.ahead p j l k (omega arith))

  pub joined_more : {row fresh' : ℕ} {t'' : List ℕ} → Crossed p n spare t' t'' row → fresh' ≡ union fresh row → Joined n (p + 1) spare t t'' fresh'
  joined_more {row} {fresh'} {t''} c ef = record {
    long = c.long;
    upper = λ i j l k g. below_suc {P = λ i. i < j → cell t'' i j ≡ grown spare t i j}
        (λ l. c.here j l k ∙ ahead_grown j l k)
        (λ i g l. c.others i j (omega arith) (λ a b. omega arith) (λ a b. omega arith) ∙ s.upper i j l k g) (omega arith) l;
    lower = λ i j l k g. below_suc {P = λ i. i < j → cell t'' j i ≡ grown spare t i j}
        (λ l. c.turned j l k ∙ ahead_grown j l k)
        (λ i g l. c.others j i (omega arith) (λ a b. omega arith) (λ a b. omega arith) ∙ s.lower i j l k g) (omega arith) l;
    ahead = λ i j l k g. c.others i j (omega arith) (λ a b. omega arith) (λ a b. omega arith) ∙ s.ahead i j l k (omega arith);
    labels = λ i l. c.others i i (omega arith) (λ a b. omega arith) (λ a b. omega arith) ∙ s.labels i l;
    still = λ z i j l k g. below_suc {P = λ i. i < j → grown spare t i j ≡ cell t i j}
        (λ l. sym (ahead_grown j l k) ∙ c.still (none_right fresh row (sym ef ∙ z)) j l k ∙ s.ahead p j l k (omega arith))
        (λ i g l. s.still (none_left fresh row (sym ef ∙ z)) i j l k g) (omega arith) l;
  }

  -- the words: p rows are written behind the labels, up to `at`
  module _ (labels : List ℕ) {at : ℕ} {w₀ w : List ℕ} (r : Runs (row_of n (apart_by labels spare t)) n n w₀ p at w) (room : size n ≤ length w₀) where
    pub rows_room : at + (n - 1 - p) ≤ length w₀
    rows_room = omega (arith, r.here, length_rows n (apart_by labels spare t) p (omega arith), pairs_row n p h, pairs_sub n p, size_pairs n)

    pub rows_more : {to : ℕ} {w' : List ℕ} → to ≡ at - p - 1 → w' ≡ put_at (to + p + 1) (row_of n (apart_by labels spare t') p) w
        → Runs (row_of n (apart_by labels spare t)) n n w₀ (p + 1) (at + (n - 1 - p)) w'
    unfolding row_of apart_by
    rows_more {to} {w'} e ew =
        let here : to + p + 1 ≡ at = omega (arith, r.here) in
        run_more (n - 1 - p) r h rows_room (length_list_over (n - 1 - p) _)
        (ew ∙ ap₂ (λ (x : ℕ) (l : List ℕ). put_at x l w) here (list_over_eq (λ k l.
        ap (without (common (get_or labels p 0) (get_or labels (p + 1 + k) 0))) (ahead_grown (p + 1 + k) (omega arith) (omega arith)))))

-- ---- both

module _ {n fresh rows : ℕ} {spare t t₁ t' : List ℕ} (labels labels' w w₁ w' : List ℕ) (o : Owned n spare t t₁ fresh) (j : Joined n n spare t₁ t' rows) (few : n ≤ row_length)
    (el : labels' ≡ put_at 0 (list_over n (own spare t)) labels) (room : n ≤ length labels) where
  -- the pairs were not changed with the labels
  pair_was : (p q : ℕ) → q < n → p < q → grown spare t₁ p q ≡ grown spare t p q
  unfolding grown
  pair_was p q k l = ap (union (both_ways spare p q)) (o.others p q (omega arith) (λ e. omega arith))

  label_is : (p : ℕ) → p < n → cell t' p p ≡ own spare t p
  label_is p h = j.labels p h ∙ o.here p h

  diagonal : (p : ℕ) → p < n → get_or labels' p 0 ≡ cell t' p p
  diagonal p h = ap (λ (l : List ℕ). get_or l p 0) el ∙ front_word n p (own spare t) labels room h ∙ sym (label_is p h)

  words_are : size n ≤ length w → w₁ ≡ put_at 0 (list_over n (own spare t)) w → w' ≡ put_at n (run_over n (row_of n (apart_by labels' spare t₁))) w₁
      → w' ≡ put_at 0 (layer_by n (cell t')) w
  unfolding layer_by layer_of apart_by
  words_are fits e₁ e₂ =
      put_behind n (list_over n (own spare t)) (run_over n (row_of n (apart_by labels' spare t₁))) w w₁ w' (length_list_over n (own spare t))
      (omega (arith, length_rows n (apart_by labels' spare t₁) n (omega arith), size_pairs n)) e₁ e₂
      ∙ ap (λ (l : List ℕ). put_at 0 l w) (layer_eq (λ p h. sym (label_is p h)) (λ p q h k.
      ap₂ without (ap₂ common (diagonal p (omega arith)) (diagonal q k)) (sym (j.upper p q h k (omega arith)))))

  module _ (turns : Turns n t) where
    -- either way round the same
    grown_turn : (p q : ℕ) → p < n → q < n → grown spare t q p ≡ grown spare t p q
    unfolding grown both_ways
    grown_turn p q h k = ap₂ union (or_comm (cell spare q p) (cell spare p q)) (turns q p k h)

    -- by what is known of a lower one with a higher one, of these turned round, and of one with itself
    by_order : (P : ℕ → ℕ → Type 0) → ((p q : ℕ) → p < q → q < n → P p q) → ((p q : ℕ) → p < q → q < n → P q p) → ((p : ℕ) → p < n → P p p)
        → (p q : ℕ) → p < n → q < n → P p q
    by_order P up down both p q h k = ⊎_elim
        (λ e. subst (P p) (same_at e) (both p h))
        (λ d. let differ : p ≡ q → ⊥ = λ e. fails_at d (same_of e) in
        ⊎_elim (λ l. up p q (omega arith) k) (λ l. down q p (omega arith) h) (which p q))
        (holds_or (same p q))

    pub finished : size n ≤ length w → w₁ ≡ put_at 0 (list_over n (own spare t)) w → w' ≡ put_at n (run_over n (row_of n (apart_by labels' spare t₁))) w₁
        → Finished n spare t labels' t' w w' (union fresh rows)
    unfolding own
    finished fits e₁ e₂ = record {
      grows = by_order (λ p q. cell t' p q ≡ grown spare t p q)
          (λ p q l k. j.upper p q l k (omega arith) ∙ pair_was p q k l)
          (λ p q l k. j.lower p q l k (omega arith) ∙ pair_was p q k l ∙ grown_turn q p k (omega arith))
          label_is;
      diagonal = diagonal;
      is = words_are fits e₁ e₂;
      still = λ z. let stays : (p q : ℕ) → p < q → q < n → grown spare t₁ p q ≡ cell t p q = (λ p q l k.
          j.still (none_right fresh rows z) p q l k (omega arith) ∙ o.others p q (omega arith) (λ e. omega arith)) in
          by_order (λ p q. cell t' p q ≡ cell t p q)
          (λ p q l k. j.upper p q l k (omega arith) ∙ stays p q l k)
          (λ p q l k. j.lower p q l k (omega arith) ∙ stays p q l k ∙ turns p q (omega arith) k)
          (λ p h. label_is p h ∙ o.still (none_left fresh rows z) p h);
    }
