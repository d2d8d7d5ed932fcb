-- What each effect deletes is cut out of a table, one effect after the other: what is still to be cut stays.
-- Assumes nothing.
use Prim.Native.Nat.{ℕ, ◌+◌, ◌*◌, ◌≤◌, ◌<◌}
use mathlib.Core.Path.{◌≡◌, refl, ap, ap₂, ◌∙◌}
use mathlib.Core.Bool.{Bool}
use mathlib.Core.Logic.{inr}
use mathlib.Core.List.{List}
use native.Mathlib.Omega.{arith}
use lib.ListN.{length, get_or}
use Rattle.rules.specs.Test.{◌and◌, same, choose}
use Rattle.rules.specs.Word.{bit}
use Rattle.rules.specs.Lists.{list_over}
use Rattle.rules.proofs.Overs.{below_suc}
use Rattle.rules.proofs.Tests.{choose_failed, and_of, and_left, and_right, fails_of, test_eq, same_of, same_at}
use Rattle.words.specs.Memory.{put_at}
use Rattle.words.specs.Rows.{row_length, table_length, cell}
use Rattle.words.proofs.Cells.{Rows, rows_none}
use Rattle.together.specs.Cells.{with_prop}
use Rattle.together.proofs.Rows.{row_put, rows_row}

-- ---- row by row

pub record CutRows (dels r : List ℕ) (i : ℕ) (w : List ℕ) : Type 0 where
  pub done : Rows (with_prop dels r) row_length i w
  pub ahead : (j k : ℕ) → i ≤ j → k < row_length → cell w j k ≡ cell r j k

pub cut_rows_none : {dels r : List ℕ} → length r ≡ table_length → CutRows dels r 0 r
cut_rows_none e = record { done = rows_none e; ahead = λ j k h l. refl }

pub cut_rows_more : {dels r : List ℕ} {i del : ℕ} {w w' : List ℕ} → CutRows dels r i w → i < row_length → length w' ≡ table_length → del ≡ get_or dels i 0
    → w' ≡ put_at (i * row_length) (list_over row_length (λ k. choose (bit k del) 0 (cell w i k))) w → CutRows dels r (i + 1) w'
unfolding with_prop
cut_rows_more {i = i} s h long e cleared =
    let put = row_put s.done.long h (omega arith) cleared in
    record {
      done = rows_row s.done (inr refl) long put (λ k l. ap₂ (λ (x y : ℕ). choose (bit k x) 0 y) e (s.ahead i k (omega arith) l));
      ahead = λ j k l g. put.stays j k g (λ q. omega arith) ∙ s.ahead j k (omega arith) g;
    }

-- ---- column by column

pub record CutColumns (dels turned : List ℕ) (i : ℕ) (w : List ℕ) : Type 0 where
  pub long : length w ≡ table_length
  pub done : (j q : ℕ) → j < i → j < row_length → cell w q j ≡ choose (bit q (get_or dels j 0)) 0 (cell turned q j)
  pub ahead : (j q : ℕ) → i ≤ j → j < row_length → cell w q j ≡ cell turned q j

pub cut_columns_none : {dels turned : List ℕ} → length turned ≡ table_length → CutColumns dels turned 0 turned
cut_columns_none e = record { long = e; done = λ j q h. absurd (omega arith); ahead = λ j q h l. refl }

pub cut_columns_more : {dels turned : List ℕ} {i del : ℕ} {w w' : List ℕ} → CutColumns dels turned i w → length w' ≡ table_length → del ≡ get_or dels i 0
    → ((q j : ℕ) → j < row_length → cell w' q j ≡ choose (same j i and bit q del) 0 (cell w q j)) → CutColumns dels turned (i + 1) w'
cut_columns_more {dels} {turned} {i} {del} {w} {w'} s long e cleared = record {
  long = long;
  done = λ j q h l. below_suc {P = λ j. j < row_length → cell w' q j ≡ choose (bit q (get_or dels j 0)) 0 (cell turned q j)}
      (λ l. cleared q i l ∙ ap₂ (λ (b : Bool) (x : ℕ). choose b 0 x) (own q) (s.ahead i q (omega arith) l))
      (λ j h l. stays j q l (λ u. omega arith) ∙ s.done j q h l) (omega arith) l;
  ahead = λ j q h l. stays j q l (λ u. omega arith) ∙ s.ahead j q (omega arith) l;
}
  where
    own : (q : ℕ) → (same i i and bit q del) ≡ bit q (get_or dels i 0)
    own q = test_eq (λ t. and_right _ t) (λ t. and_of (same_of refl) t) ∙ ap (bit q) e

    stays : (j q : ℕ) → j < row_length → (j ≡ i → ⊥) → cell w' q j ≡ cell w q j
    stays j q l u = cleared q j l ∙ choose_failed (same j i and bit q del) 0 (fails_of (λ t. u (same_at (and_left _ t))))
