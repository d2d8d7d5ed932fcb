-- The members of a set, one after the other.
use Rattle.std.specs.Prelude.{◌≡◌, ℕ, ◌<◌}
use Rattle.std.specs.Int.Count.{count_trailing_zeros}
use Rattle.rules.specs.Word.{without, single}
use Rattle.words.specs.Width.{word_width}

-- i is the lowest member of a set, and these are the others
pub record TakesLowest (set i rest : ℕ) : Type 0 where
  pub some : 0 < set
  pub is : i ≡ count_trailing_zeros word_width set
  pub others : rest ≡ without set (single (count_trailing_zeros word_width set))
