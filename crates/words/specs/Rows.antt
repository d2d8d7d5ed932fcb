-- Tables of words: rows of one length, one behind the other.
use Rattle.std.specs.Prelude.{ℕ, ◌+◌, ◌*◌, ◌<◌, ◌^◌, ◌≡◌, ◌⊎◌, List, length, get_or}
use Rattle.rules.specs.Word.{union}
use Rattle.rules.specs.Lists.{list_over}
use Rattle.rules.specs.Shared.{start_label}

-- from one row of a table to the next
abbrev pub row_length : ℕ
row_length = 32

-- the words of a row that are worked on at once
abbrev pub part_length : ℕ
part_length = 16

abbrev pub table_length : ℕ
table_length = 1024

-- word j of row i
unfoldable pub cell : List ℕ → ℕ → ℕ → ℕ
cell table i j = get_or table (i * row_length + j) 0

-- a word of a table, joined with the one in its place when the table is turned round
unfoldable pub both_ways : List ℕ → ℕ → ℕ → ℕ
both_ways table p q = union (cell table p q) (cell table q p)

-- that joined to what another table has there
unfoldable pub grown : List ℕ → List ℕ → ℕ → ℕ → ℕ
grown table old p q = union (both_ways table p q) (cell old p q)

-- a row of a table, to be written
pub record Target (table : List ℕ) (row : ℕ) : Type 0 where
  pub whole : length table ≡ table_length
  pub inside : row < row_length

-- the rows of a table that a set names
pub record Source (table : List ℕ) (named : ℕ) : Type 0 where
  pub whole : length table ≡ table_length
  pub inside : named < 2 ^ row_length

-- one part or two
abbrev pub InParts : ℕ → Type 0
InParts width = (width ≡ part_length) ⊎ (width ≡ row_length)

-- of each of n propositions the numbers of the sets that contain it: of the effects' adds the adders
unfoldable pub columns_of : ℕ → List ℕ → List ℕ
columns_of n sets = list_over n (start_label (length sets) (λ i. get_or sets i 0))

-- each of these sets is one of n propositions
abbrev pub Inside : ℕ → List ℕ → Type 0
Inside n sets = (v : ℕ) → v < length sets → get_or sets v 0 < 2 ^ n
