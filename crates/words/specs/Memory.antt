-- Lent memory with words written into it.
use Rattle.std.specs.Prelude.{ℕ, ◌+◌, List, ◌++◌, length, take, drop}

-- the memory w with these words from `at` on
unfoldable pub put_at : ℕ → List ℕ → List ℕ → List ℕ
put_at at words w = take at w ++ (words ++ drop (at + length words) w)
