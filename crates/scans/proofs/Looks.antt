-- The loop over the members of a set whose words lie apart in a table, with room for the count; turns of looks, and the last look.
-- Assumes nothing.
use mathlib.Core.Path.{◌≡◌, refl, sym, ap, ap₂, subst, ◌∙◌}
use mathlib.Core.Bool.{Bool, true, false, So, false≢true}
use mathlib.Core.Logic.{⊎_elim}
use mathlib.Core.List.{List}
use Prim.Native.Nat.{ℕ, suc, ◌+◌, ◌*◌, ◌^◌, ◌≤◌, ◌<◌}
use native.Mathlib.Omega.{arith}
use lib.Count.{ones, ones-le, count_trailing_zeros}
use lib.ListN.{length, get_or, set, length-set}
use lib.Seq.{get_or-set_same, get_or-set_other}
use Rattle.rules.specs.Test.{same, choose}
use Rattle.rules.specs.Word.{bit, without, single}
use Rattle.rules.specs.Over.{join_of}
use Rattle.rules.specs.Scan.{Scan, scan_at, look, scan_of}
use Rattle.rules.proofs.Tests.{choose_held, choose_failed, fails_of, fails_at, holds_or, same_of, same_at}
use Rattle.rules.proofs.Scans.{Turn, turn_where, look_turn, sum_count, count_ones, ones_out, where_alike}
use Rattle.rules.proofs.Scans.{ScanningOf, of_none, of_look, of_done, of_ended, look_ended}
use Rattle.words.specs.Width.{word_width}
use Rattle.words.specs.Rows.{row_length, cell}
use Rattle.words.proofs.Lowest.{no_lower}
use Rattle.words.proofs.MemberLoops.{lowest_in, lowest_lt}
use Rattle.scans.specs.Pairs.{word_at, with_last}

-- ---- the lowest member of a set of rows

module _ {rest v : ℕ} (small : rest < 2 ^ row_length) (some : 0 < rest) (e : v ≡ count_trailing_zeros word_width rest) where
  pub low_in : So (bit v rest)
  low_in = subst (λ (x : ℕ). So (bit x rest)) (sym e) (lowest_in row_length rest (omega arith) small some)

  pub low_lt : v < row_length
  low_lt = omega (arith, lowest_lt row_length rest (omega arith) small some)

  pub low_first : (i : ℕ) → i < v → So (bit i rest) → ⊥
  low_first i l t = false≢true (sym (no_lower word_width rest i (omega arith)) ∙ t)

  pub low_out : {rest' : ℕ} → rest' ≡ without rest (single (count_trailing_zeros word_width rest)) → rest' ≡ without rest (single v)
  low_out q = q ∙ ap (λ (x : ℕ). without rest (single x)) (sym e)

  pub low_ones : {rest' : ℕ} → rest' ≡ without rest (single (count_trailing_zeros word_width rest)) → ones rest' + 1 ≡ ones rest
  low_ones q = ap (λ (x : ℕ). ones x + 1) (low_out q) ∙ ones_out row_length rest v small low_in

-- ---- the looks at the words of a table whose index is in the set

pub record Looking (table : List ℕ) (base step set both before rest left looked : ℕ) : Type 0 where
  pub scan : ScanningOf (λ j. look (word_at table base step j)) (scan_of row_length set (λ i. look (word_at table base step i)) (scan_at both before))
      row_length rest left looked
  pub few : looked + ones rest ≤ before + row_length

pub looking_none : {table : List ℕ} {base step set both before : ℕ} → set < 2 ^ row_length → Looking table base step set both before set both before
looking_none {set = set} h = record { scan = of_none h; few = omega (arith, ones-le row_length set h) }

module _ {table : List ℕ} {base step set both before rest left looked : ℕ} (m : Looking table base step set both before rest left looked) where
  pub looking_more : {v rest' left' looked' : ℕ} → 0 < rest → 0 < left → v ≡ count_trailing_zeros word_width rest
      → rest' ≡ without rest (single (count_trailing_zeros word_width rest)) → left' ≡ without left (word_at table base step v) → looked' ≡ looked + 1
      → Looking table base step set both before rest' left' looked'
  looking_more some more e q w k = record {
    scan = of_look (λ i. word_at table base step i) m.scan (low_in m.scan.small some e) (low_first m.scan.small some e) (low_out m.scan.small some e q)
        more w k;
    few = omega (arith, m.few, low_ones m.scan.small some e q);
  }

  pub looking_room : looked ≤ before + row_length
  looking_room = omega (arith, m.few)

  pub looking_done : rest ≤ 0 → scan_of row_length set (λ i. look (word_at table base step i)) (scan_at both before) ≡ scan_at left looked
  looking_done h = of_done m.scan (omega arith)

  pub looking_ended : left ≡ 0 → scan_of row_length set (λ i. look (word_at table base step i)) (scan_at both before) ≡ scan_at left looked
  looking_ended e = of_ended m.scan (λ j. look_ended (word_at table base step j)) e

-- the same words make the same scan
pub words_alike : (n set : ℕ) {f g : ℕ → ℕ} (s : Scan) → ((i : ℕ) → f i ≡ g i) → scan_of n set (λ i. look (f i)) s ≡ scan_of n set (λ i. look (g i)) s
unfolding scan_of
words_alike n set s e = where_alike n _ _ _ _ s (λ i l. refl) (λ i l r. ap (λ (x : ℕ). look x r) (e i))

-- the words of a list, of a row of a table, and of a column
pub word_plain : (table : List ℕ) (i : ℕ) → get_or table i 0 ≡ word_at table 0 1 i
word_plain table i = let e : i ≡ 0 + i * 1 = omega arith in ap (λ (x : ℕ). get_or table x 0) e

pub cell_row : (table : List ℕ) (v i : ℕ) → cell table v i ≡ word_at table (v * row_length) 1 i
unfolding cell
cell_row table v i = let e : v * row_length + i ≡ v * row_length + i * 1 = omega arith in ap (λ (x : ℕ). get_or table x 0) e

pub cell_column : (table : List ℕ) (p i : ℕ) → cell table i p ≡ word_at table p row_length i
unfolding cell
cell_column table p i = let e : i * row_length + p ≡ p + i * row_length = omega arith in ap (λ (x : ℕ). get_or table x 0) e

-- ---- turns

-- the looks at the members of a set
pub looks_turn : (n set : ℕ) (word : ℕ → ℕ) → set < 2 ^ n → Turn (scan_of n set (λ i. look (word i))) (join_of n set word) (ones set)
unfolding scan_of join_of
looks_turn n set word h =
    subst (Turn _ _) (sum_count n (λ i. bit i set) ∙ count_ones n set h)
    (turn_where n (λ i. bit i set) (λ i. look (word i)) word (λ i. 1) (λ i l. look_turn (word i)))

-- a turn that leaves something
pub turn_all : {f : Scan → Scan} {g h : ℕ} → Turn f g h → (s : Scan) → (without s.left g ≡ 0 → ⊥) → f s ≡ scan_at (without s.left g) (s.looked + h)
turn_all t s some = ap₂ scan_at (t.takes s) (t.counts s (λ e. some (sym (t.takes s) ∙ e)))

-- ---- the last look

pub last_none : (s : Scan) → s.left ≡ 0 → with_last s ≡ s.looked
unfolding with_last
last_none s e = choose_held _ (same_of e)

pub last_some : (s : Scan) → (s.left ≡ 0 → ⊥) → with_last s ≡ suc s.looked
unfolding with_last
last_some s e = choose_failed _ _ (fails_of (λ t. e (same_at t)))

pub last_le : (s : Scan) → with_last s ≤ s.looked + 1
unfolding with_last choose
last_le s = go (same s.left 0)
  where
    go : (b : Bool) → choose b s.looked (suc s.looked) ≤ s.looked + 1
    go true = omega arith
    go false = omega arith

-- one more look counts as the last one does
pub look_looked : (w : ℕ) (s : Scan) → (look w s).looked ≡ with_last s
unfolding look with_last choose
look_looked w s = go (same s.left 0)
  where
    go : (b : Bool) → (choose b s (scan_at (without s.left w) (suc s.looked))).looked ≡ choose b s.looked (suc s.looked)
    go true = refl
    go false = refl

-- ---- the sizes, one after the other

pub record Sized (adders : List ℕ) (room : ℕ) (sizes : List ℕ) (p : ℕ) : Type 0 where
  pub long : length sizes ≡ room
  pub within : p ≤ length adders
  pub is : (i : ℕ) → i < p → get_or sizes i 0 ≡ ones (get_or adders i 0) + 1

pub sized_none : {adders : List ℕ} {room : ℕ} {sizes : List ℕ} → length sizes ≡ room → Sized adders room sizes 0
sized_none e = record { long = e; within = omega arith; is = λ i l. absurd (omega arith) }

pub sized_more : {adders : List ℕ} {room : ℕ} {sizes : List ℕ} {p : ℕ} → Sized adders room sizes p → p < length adders → length adders ≤ room
    → Sized adders room (set sizes p (ones (get_or adders p 0) + 1)) (p + 1)
sized_more {adders} {room} {sizes} {p} m h few = record {
  long = length-set sizes p _ ∙ m.long;
  within = omega arith;
  is = λ i l. ⊎_elim
      (λ t. let e : i ≡ p = same_at t in
      ap (λ (x : ℕ). get_or (set sizes p (ones (get_or adders p 0) + 1)) x 0) e
      ∙ get_or-set_same sizes p _ 0 (omega (arith, m.long)) ∙ sym (ap (λ (x : ℕ). ones (get_or adders x 0) + 1) e))
      (λ t. let d : i ≡ p → ⊥ = λ e. fails_at t (same_of e) in
      get_or-set_other sizes p i _ 0 d ∙ m.is i (omega arith))
      (holds_or (same i p));
}
