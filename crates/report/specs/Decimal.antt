-- A number as text.
use Rattle.std.specs.Prelude.{ℕ, zero, suc, ◌+◌, ◌/◌, ◌%◌, List, [], ◌∷◌, ◌++◌}
use Rattle.rules.specs.Test.{below, choose}

-- the last digit of n, in ASCII
unfoldable pub digit : ℕ → ℕ
digit n = 48 + n % 10

-- the digits of n, with at most so many in front of the last
unfoldable pub spell : ℕ → ℕ → List ℕ
spell zero n = digit n ∷ []
spell (suc more) n = choose (below n 10) (digit n ∷ []) (spell more (n / 10) ++ (digit n ∷ []))

-- n in decimal digits: no number has more of them than itself, and 0 has one
unfoldable pub decimal : ℕ → List ℕ
decimal n = spell n n
