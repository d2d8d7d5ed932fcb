-- A word taken together with the words that a set names, one after the other.
use Rattle.std.specs.Prelude.{◌≡◌, ℕ, ◌<◌, ◌^◌}
use Rattle.rules.specs.Word.{union}
use Rattle.rules.specs.Over.{join_of, meet_of}
use Rattle.words.specs.Members.{TakesLowest}
use Rattle.words.specs.Rows.{row_length}

-- over a set without members the word stays; over one with some, it is taken together with the lowest one's first
pub record FoldLaws (op : ℕ → ℕ → ℕ) (over : ℕ → (ℕ → ℕ) → ℕ → ℕ) : Type 0 where
  pub none : (f : ℕ → ℕ) (w : ℕ) → over 0 f w ≡ w
  pub more : {set i rest : ℕ} (f : ℕ → ℕ) (w : ℕ) → TakesLowest set i rest → set < 2 ^ row_length → over set f w ≡ over rest f (op w (f i))

-- what is in the word and in each of those
abbrev pub met_with : ℕ → (ℕ → ℕ) → ℕ → ℕ
met_with set f w = meet_of row_length set f w

-- what is in the word or in one of those
abbrev pub joined_with : ℕ → (ℕ → ℕ) → ℕ → ℕ
joined_with set f w = union w (join_of row_length set f)
