-- The rows of the effects that add the lower proposition: what a row takes away and counts, and the loop over the rows, with room for the count.
-- Assumes nothing.
use mathlib.Core.Path.{◌≡◌, refl, sym, ap, ap₂, subst, ◌∙◌}
use mathlib.Core.Bool.{So}
use mathlib.Core.Logic.{⊎_elim}
use mathlib.Core.List.{List}
use Prim.Native.Nat.{ℕ, ◌+◌, ◌*◌, ◌^◌, ◌≤◌, ◌<◌}
use native.Mathlib.Omega.{arith}
use lib.Count.{ones, ones-le, count_trailing_zeros}
use Rattle.rules.specs.Word.{bit, common, union, without, single}
use Rattle.rules.specs.Over.{join_of}
use Rattle.rules.specs.Scan.{Scan, scan_at, look, scan_of}
use Rattle.rules.proofs.Tests.{test_eq, or_at}
use Rattle.rules.proofs.Words.{bit_union, without_lt}
use Rattle.rules.proofs.Scans.{Turn, turn_then, look_turn, ScanningOf, of_none, of_more, of_done, of_ended}
use Rattle.words.specs.Width.{word_width}
use Rattle.words.specs.Rows.{row_length, cell}
use Rattle.scans.specs.Pairs.{word_at, row_looks, with_last, Beside, Parted}
use Rattle.scans.proofs.Sets.{others_in, others_have, Has, join_at, join_of_lem, union_left, union_right, less_same, less_part, apart_at, apart_part}
use Rattle.scans.proofs.Looks.{looks_turn, turn_all, look_looked, words_alike, cell_row, low_in, low_first, low_out, low_ones}

-- ---- one row

-- what the pairs of v take away
abbrev pub row_takes : List ℕ → List ℕ → ℕ → ℕ → ℕ → ℕ
row_takes mates r upper q v = union (join_of row_length (without upper (single v)) (cell mates v)) (cell r v q)

-- all of that is in the row joined over all of `upper`
pub row_part : (mates r : List ℕ) (upper q v s : ℕ) → So (bit s (row_takes mates r upper q v)) → So (bit s (union (cell r v q) (join_of row_length upper (cell mates v))))
row_part mates r upper q v s t = ⊎_elim
    (λ u. let h : Has s row_length (without upper (single v)) (cell mates v) = join_at (cell mates v) u in
    union_right s (cell r v q) _ (join_of_lem s upper (cell mates v) h.below (others_in upper v h.i h.among) h.holds))
    (λ u. union_left s (cell r v q) _ u)
    (or_at (sym (bit_union s _ _) ∙ t))

module _ (mates r : List ℕ) (upper q v : ℕ) (small : upper < 2 ^ row_length) where
  pub row_turn : Turn (row_looks mates r upper q v) (row_takes mates r upper q v) (ones (without upper (single v)) + 1)
  unfolding row_looks
  row_turn = turn_then (looks_turn row_length (without upper (single v)) (cell mates v) (without_lt row_length (single v) small)) (look_turn (cell r v q))

  -- v with itself is the only other thing there: where nothing is left of it, the two take away the same
  pub row_same : (left w : ℕ) → w ≡ union (cell r v q) (join_of row_length upper (cell mates v)) → (So (bit v upper) → common left (cell mates v v) ≡ 0)
      → without left (row_takes mates r upper q v) ≡ without left w
  row_same left w e apart = less_same left (row_takes mates r upper q v) w (λ s l. test_eq (λ t. ap (bit s) e ∙ row_part mates r upper q v s t) (λ t. back s l (sym (ap (bit s) e) ∙ t)))
    where
      back : (s : ℕ) → So (bit s left) → So (bit s (union (cell r v q) (join_of row_length upper (cell mates v)))) → So (bit s (row_takes mates r upper q v))
      back s l t = ⊎_elim
          (λ u. union_right s (join_of row_length (without upper (single v)) (cell mates v)) (cell r v q) u)
          (λ u. let h : Has s row_length upper (cell mates v) = join_at (cell mates v) u in
          union_left s (join_of row_length (without upper (single v)) (cell mates v)) (cell r v q) (join_of_lem s (without upper (single v)) (cell mates v) h.below (others_have upper v h.i (λ q. apart_at left (cell mates v v) s
          (apart (subst (λ (x : ℕ). So (bit x upper)) q h.among)) l (subst (λ (x : ℕ). So (bit s (cell mates v x))) q h.holds)) h.among) h.holds))
          (or_at (sym (bit_union s (cell r v q) (join_of row_length upper (cell mates v))) ∙ t))

  -- a row that leaves something counts in full
  pub row_all : (left looked w : ℕ) → w ≡ union (cell r v q) (join_of row_length upper (cell mates v)) → (So (bit v upper) → common left (cell mates v v) ≡ 0)
      → (without left w ≡ 0 → ⊥) → row_looks mates r upper q v (scan_at left looked) ≡ scan_at (without left w) (looked + (ones (without upper (single v)) + 1))
  row_all left looked w e apart some =
      let same : without left (row_takes mates r upper q v) ≡ without left w = row_same left w e apart in
      turn_all row_turn (scan_at left looked) (λ z. some (sym same ∙ z)) ∙ ap (λ (x : ℕ). scan_at x (looked + (ones (without upper (single v)) + 1))) same

  -- one that leaves nothing is counted by its looks
  pub row_last : (left looked w : ℕ) (s : Scan) → w ≡ union (cell r v q) (join_of row_length upper (cell mates v)) → (So (bit v upper) → common left (cell mates v v) ≡ 0)
      → without left w ≡ 0 → scan_of row_length (without upper (single v)) (λ w. look (cell mates v w)) (scan_at left looked) ≡ s
      → row_looks mates r upper q v (scan_at left looked) ≡ scan_at 0 (with_last s)
  unfolding row_looks
  row_last left looked w s e apart none seen =
      ap₂ scan_at (row_turn.takes (scan_at left looked) ∙ row_same left w e apart ∙ none) (look_looked _ _ ∙ ap with_last seen)

-- ---- the loop over the rows

pub record Rowing (besides mates : List ℕ) (q lower upper both before rest left looked : ℕ) : Type 0 where
  pub small : rest < 2 ^ row_length
  pub inside : (v : ℕ) → So (bit v rest) → So (bit v lower)
  pub part : (s : ℕ) → So (bit s left) → So (bit s both)
  pub scan : (r : List ℕ) → Beside mates r besides lower upper q → Parted mates lower upper both
      → ScanningOf (row_looks mates r upper q) (scan_of row_length lower (row_looks mates r upper q) (scan_at both before)) row_length rest left looked
  pub few : looked + 33 * ones rest ≤ before + 1056

pub rowing_none : {besides mates : List ℕ} {q lower upper both before : ℕ} → lower < 2 ^ row_length
    → Rowing besides mates q lower upper both before lower both before
rowing_none {lower = lower} h = record {
  small = h;
  inside = λ v t. t;
  part = λ s t. t;
  scan = λ r b p. of_none h;
  few = omega (arith, ones-le row_length lower h);
}

module _ {besides mates : List ℕ} {q lower upper both before rest left looked : ℕ} (m : Rowing besides mates q lower upper both before rest left looked) where
  pub rowing_room : looked ≤ before + 1056
  rowing_room = omega (arith, m.few)

  -- nothing is left of what an effect has that adds both
  rowing_apart : (v : ℕ) → So (bit v rest) → Parted mates lower upper both → So (bit v upper) → common left (cell mates v v) ≡ 0
  rowing_apart v t p u = apart_part left both (cell mates v v) m.part (p v (m.inside v t) u)

  module _ {v : ℕ} (small : upper < 2 ^ row_length) (some : 0 < rest) (e : v ≡ count_trailing_zeros word_width rest) where
    pub rowing_more : {rest' left' looked' x : ℕ} → rest' ≡ without rest (single (count_trailing_zeros word_width rest))
        → left' ≡ without left (cell besides v q) → (left' ≡ 0 → ⊥) → x ≡ ones (without upper (single v)) + 1 → looked' ≡ looked + x
        → Rowing besides mates q lower upper both before rest' left' looked'
    rowing_more {rest'} {left'} {looked'} {x} out taken more ex k =
        let t : So (bit v rest) = low_in m.small some e in
        let o : rest' ≡ without rest (single v) = low_out m.small some e out in record {
          small = subst (λ (y : ℕ). y < 2 ^ row_length) (sym o) (without_lt row_length (single v) m.small);
          inside = λ i u. m.inside i (others_in rest v i (sym (ap (bit i) o) ∙ u));
          part = λ s u. m.part s (less_part left (cell besides v q) s (sym (ap (bit s) taken) ∙ u));
          scan = λ r b p. of_more (m.scan r b p) t (low_first m.small some e) o
              (row_all mates r upper q v small left looked (cell besides v q) (b.is v (m.inside v t)) (rowing_apart v t p) (λ z. more (taken ∙ z))
              ∙ sym (ap₂ scan_at taken (k ∙ ap (λ (y : ℕ). looked + y) ex)));
          few = omega (arith, m.few, low_ones m.small some e out, ones-le row_length _ (without_lt row_length (single v) small));
        }

    -- a row that leaves nothing is the last
    pub rowing_last : {set l k : ℕ} → set ≡ without upper (single v) → without left (cell besides v q) ≡ 0
        → scan_of row_length set (λ i. look (word_at mates (v * row_length) 1 i)) (scan_at left looked) ≡ scan_at l k
        → (r : List ℕ) → Beside mates r besides lower upper q → Parted mates lower upper both
        → scan_of row_length lower (row_looks mates r upper q) (scan_at both before) ≡ scan_at 0 (with_last (scan_at l k))
    rowing_last {set} {l} {k} es none seen r b p =
        let t : So (bit v rest) = low_in m.small some e in
        let next : ScanningOf (row_looks mates r upper q) (scan_of row_length lower (row_looks mates r upper q) (scan_at both before))
        row_length (without rest (single v)) 0 (with_last (scan_at l k)) =
        of_more (m.scan r b p) t (low_first m.small some e) refl
        (row_last mates r upper q v small left looked (cell besides v q) (scan_at l k) (b.is v (m.inside v t)) (rowing_apart v t p) none
        (ap (λ (x : ℕ). scan_of row_length x (λ w. look (cell mates v w)) (scan_at left looked)) (sym es)
        ∙ words_alike row_length set (scan_at left looked) (cell_row mates v) ∙ seen)) in
        of_ended next (λ j s z. (row_turn mates r upper q j small).ends s z) refl

  pub rowing_done : rest ≤ 0 → (r : List ℕ) → Beside mates r besides lower upper q → Parted mates lower upper both
      → scan_of row_length lower (row_looks mates r upper q) (scan_at both before) ≡ scan_at left looked
  rowing_done h r b p = of_done (m.scan r b p) (omega arith)

  pub rowing_ended : upper < 2 ^ row_length → left ≡ 0 → (r : List ℕ) → Beside mates r besides lower upper q → Parted mates lower upper both
      → scan_of row_length lower (row_looks mates r upper q) (scan_at both before) ≡ scan_at left looked
  rowing_ended small e r b p = of_ended (m.scan r b p) (λ j s z. (row_turn mates r upper q j small).ends s z) e
