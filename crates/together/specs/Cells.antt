-- What the code writes into its tables, word by word, from the tables before. The laws that these are the words of the rules stand in proofs/Stages.
use Rattle.std.specs.Prelude.{ℕ, ◌*◌, ◌≤◌, ◌<◌, ◌^◌, ◌≡◌, List, length, get_or, take, drop}
use Rattle.rules.specs.Test.{same, choose}
use Rattle.rules.specs.Word.{bit, common, union, without, single, first}
use Rattle.rules.specs.Over.{keep, join_of, meet_of}
use Rattle.rules.specs.Lists.{list_over}
use Rattle.words.specs.Rows.{row_length, table_length, cell, InParts, Inside}

-- how many words of a row are in use where it has one for each of n propositions, a part of it or all; there is a row for each effect with these needs
pub record Width (n width : ℕ) (needs : List ℕ) : Type 0 where
  pub parts : InParts width
  pub props : n ≤ width
  pub effects : length needs ≤ row_length
  pub inside : Inside n needs

-- and where it has one for each effect
pub record Span (span : ℕ) (needs : List ℕ) : Type 0 where
  pub parts : InParts span
  pub effects : length needs ≤ span

-- what the code asks that writes row i, of an effect with these needs
pub record Row (i width need : ℕ) (r labels t : List ℕ) : Type 0 where
  pub parts : InParts width
  pub inside : i < row_length
  pub needs : need < 2 ^ width
  pub r_long : length r ≡ table_length
  pub labels_long : length labels ≡ row_length
  pub t_long : length t ≡ table_length

-- and those of all effects
pub record Admitting (width : ℕ) (needs r live : List ℕ) : Type 0 where
  pub parts : InParts width
  pub inside : Inside width needs
  pub r_long : length r ≡ table_length
  pub live_long : length live ≡ row_length

-- one row of a table is written, all others stay
pub record RowPut (f : ℕ → ℕ) (width row : ℕ) (old new : List ℕ) : Type 0 where
  pub is : (k : ℕ) → k < width → cell new row k ≡ f k
  pub stays : (i k : ℕ) → k < row_length → (i ≡ row → ⊥) → cell new i k ≡ cell old i k

-- the label of an effect, the states in which each need is together with all from it on: t is the table of the propositions
unfoldable pub label_for : ℕ → List ℕ → ℕ → ℕ
label_for all t need = meet_of row_length need (λ p. meet_of row_length (without need (first p)) (cell t p) all) all

-- an effect with a proposition, whatever it deletes, by the labels of the propositions: two effects of one action go by these rows
unfoldable pub row_for : ℕ → List ℕ → List ℕ → ℕ → ℕ → ℕ
row_for all labels t need q = meet_of row_length need (λ p. cell t p q) (common (get_or labels q 0) (label_for all t need))

-- and none where it deletes it: row i of r is that of effect i
unfoldable pub with_prop : List ℕ → List ℕ → ℕ → ℕ → ℕ
with_prop dels r i q = choose (bit q (get_or dels i 0)) 0 (cell r i q)

-- what the code asks that cuts what each effect deletes out of such a table
pub record Cutting (dels table : List ℕ) : Type 0 where
  pub few : length dels ≤ row_length
  pub long : length table ≡ table_length

-- effect i with effect j: `live` are the labels of the effects, `turned` has the effects with each proposition, row by row
unfoldable pub with_effect : List ℕ → List ℕ → List ℕ → List ℕ → ℕ → ℕ → ℕ
with_effect needs interferers live turned i j =
    choose (same i j) (get_or live i 0)
    (choose (bit j (get_or interferers i 0)) 0 (meet_of row_length (get_or needs i 0) (λ p. cell turned p j) (common (get_or live j 0) (get_or live i 0))))

-- the other effects that do not interfere with i
unfoldable pub independent_of : List ℕ → List ℕ → ℕ → ℕ
independent_of needs interferers i = without (first (length needs)) (union (get_or interferers i 0) (single i))

-- effect i with one of them, j: `row` has i with each proposition
unfoldable pub with_independent : List ℕ → List ℕ → List ℕ → ℕ → ℕ → ℕ
with_independent needs live row i j = meet_of row_length (get_or needs j 0) (λ q. get_or row q 0) (common (get_or live i 0) (get_or live j 0))

-- what the code asks that pairs the effects by rows
pub record Pairing (span effects : ℕ) (live turned mates : List ℕ) : Type 0 where
  pub parts : InParts span
  pub few : effects ≤ span
  pub live_long : length live ≡ row_length
  pub turned_long : length turned ≡ table_length
  pub mates_long : length mates ≡ table_length

-- what it asks that joins rows of a table
pub record Joining (to table sets : List ℕ) (width : ℕ) : Type 0 where
  pub to_long : length to ≡ table_length
  pub table_long : length table ≡ table_length
  pub few : length sets ≤ row_length
  pub rows : Inside row_length sets
  pub parts : InParts width

-- what it asks of effect i and a set of others, one by one
pub record Independent (i set effects : ℕ) (live row : List ℕ) : Type 0 where
  pub live_long : length live ≡ row_length
  pub row_long : length row ≡ row_length
  pub own : i < effects
  pub others : set < 2 ^ effects

-- the row of effect i with all effects
unfoldable pub mates_of : List ℕ → List ℕ → List ℕ → List ℕ → ℕ → List ℕ → List ℕ
mates_of needs interferers live row i mates =
    list_over row_length (λ j. choose (same j i) (get_or live i 0) (choose (bit j (independent_of needs interferers i)) (with_independent needs live row i j) (get_or mates j 0)))

-- and what it is together with among the adders of each proposition
unfoldable pub beside_of : List ℕ → List ℕ → List ℕ → List ℕ → List ℕ → ℕ → List ℕ → List ℕ
beside_of needs adds interferers live row i beside =
    list_over row_length (λ p. union (union (get_or beside p 0) (join_of row_length (independent_of needs interferers i) (λ j. keep (bit p (get_or adds j 0)) (with_independent needs live row i j))))
    (keep (bit p (get_or adds i 0)) (get_or live i 0)))

-- the first n rows of a table are empty
abbrev pub EmptyRows : ℕ → List ℕ → Type 0
EmptyRows n table = (i k : ℕ) → i < n → k < row_length → cell table i k ≡ 0

-- row i of a table
unfoldable pub row_in : List ℕ → ℕ → List ℕ
row_in table i = take row_length (drop (i * row_length) table)

-- effect i with effect j, one by one: as by rows, the other way round
unfoldable pub mate_of : List ℕ → List ℕ → List ℕ → List ℕ → ℕ → ℕ → ℕ
mate_of needs interferers live r i j =
    choose (same j i) (get_or live i 0) (choose (bit j (independent_of needs interferers i)) (with_independent needs live (row_in r i) i j) 0)

-- and with the adders of p
unfoldable pub beside_for : List ℕ → List ℕ → List ℕ → List ℕ → List ℕ → List ℕ → ℕ → ℕ → ℕ
beside_for needs adds dels interferers live r i p =
    union (union (with_prop dels r i p)
    (join_of row_length (independent_of needs interferers i) (λ j. keep (bit p (get_or adds j 0)) (with_independent needs live (row_in r i) i j))))
    (keep (bit p (get_or adds i 0)) (get_or live i 0))
