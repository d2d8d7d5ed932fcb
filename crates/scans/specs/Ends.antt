-- The end of a step: the table of the next proposition layer, its labels and its words.
use Rattle.std.specs.Prelude.{ℕ, ◌≤◌, ◌<◌, ◌≡◌, List, length, get_or}
use Rattle.rules.specs.Word.{common, without}
use Rattle.rules.specs.Together.{layer_by}
use Rattle.words.specs.Memory.{put_at}
use Rattle.words.specs.Rows.{row_length, table_length, cell, grown}

-- the label of p, and the mutex word of p and q by the labels, once the table t is grown by `spare`
unfoldable pub own : List ℕ → List ℕ → ℕ → ℕ
own spare t p = grown spare t p p

unfoldable pub apart_by : List ℕ → List ℕ → List ℕ → ℕ → ℕ → ℕ
apart_by labels spare t p q = without (common (get_or labels p 0) (get_or labels q 0)) (grown spare t p q)

-- the first p labels of t are grown; no change in them is in `fresh`
pub record Owned (p : ℕ) (spare t t' : List ℕ) (fresh : ℕ) : Type 0 where
  pub long : length t' ≡ table_length
  pub here : (i : ℕ) → i < p → cell t' i i ≡ own spare t i
  pub others : (i j : ℕ) → j < row_length → (i ≡ j → p ≤ i) → cell t' i j ≡ cell t i j
  pub still : fresh ≡ 0 → (i : ℕ) → i < p → own spare t i ≡ cell t i i

-- so are the words of p with the later ones below q, either way round
pub record Crossed (p q : ℕ) (spare t t' : List ℕ) (fresh : ℕ) : Type 0 where
  pub long : length t' ≡ table_length
  pub here : (j : ℕ) → p < j → j < q → cell t' p j ≡ grown spare t p j
  pub turned : (j : ℕ) → p < j → j < q → cell t' j p ≡ grown spare t p j
  pub others : (i j : ℕ) → j < row_length → (i ≡ p → p < j → q ≤ j) → (j ≡ p → p < i → q ≤ i) → cell t' i j ≡ cell t i j
  pub still : fresh ≡ 0 → (j : ℕ) → p < j → j < q → grown spare t p j ≡ cell t p j

-- and those of the first p of n with all later ones
pub record Joined (n p : ℕ) (spare t t' : List ℕ) (fresh : ℕ) : Type 0 where
  pub long : length t' ≡ table_length
  pub upper : (i j : ℕ) → i < j → j < n → i < p → cell t' i j ≡ grown spare t i j
  pub lower : (i j : ℕ) → i < j → j < n → i < p → cell t' j i ≡ grown spare t i j
  pub ahead : (i j : ℕ) → i < j → j < n → p ≤ i → cell t' i j ≡ cell t i j
  pub labels : (i : ℕ) → i < n → cell t' i i ≡ cell t i i
  pub still : fresh ≡ 0 → (i j : ℕ) → i < j → j < n → i < p → grown spare t i j ≡ cell t i j

-- n rows of a table say the same either way round
abbrev pub Turns : ℕ → List ℕ → Type 0
Turns n t = (p q : ℕ) → p < n → q < n → cell t p q ≡ cell t q p

-- what the code leaves of the table t of n propositions: the grown table, its labels and its layer
pub record Finished (n : ℕ) (spare t labels' t' words words' : List ℕ) (fresh : ℕ) : Type 0 where
  pub grows : (p q : ℕ) → p < n → q < n → cell t' p q ≡ grown spare t p q
  pub diagonal : (p : ℕ) → p < n → get_or labels' p 0 ≡ cell t' p p
  pub is : words' ≡ put_at 0 (layer_by n (cell t')) words
  pub still : fresh ≡ 0 → (p q : ℕ) → p < n → q < n → cell t' p q ≡ cell t p q

-- what it asks of the table, of its labels, and of what is joined to it
pub record Laid (labels t : List ℕ) : Type 0 where
  pub labels_long : length labels ≡ row_length
  pub t_long : length t ≡ table_length
