-- Which effects interfere, by lists of their sets and of the actions that own them.
use Rattle.std.specs.Prelude.{ℕ, ◌≡◌, Bool, List, length, get_or}
use Rattle.rules.specs.Test.{◌and◌, ◌or◌, fails, same}
use Rattle.rules.specs.Word.{union, single, meets}
use Rattle.rules.specs.Over.{keep, join_over}

-- i deletes something that j needs or adds
unfoldable pub clobbers_in : List ℕ → List ℕ → List ℕ → ℕ → ℕ → Bool
clobbers_in needs adds dels i j = meets (get_or dels i 0) (union (get_or needs j 0) (get_or adds j 0))

-- one of them does, and no action owns both
unfoldable pub interfere_in : List ℕ → List ℕ → List ℕ → List ℕ → ℕ → ℕ → Bool
interfere_in needs adds dels owners i j =
    fails (same (get_or owners i 0) (get_or owners j 0)) and (clobbers_in needs adds dels i j or clobbers_in needs adds dels j i)

-- the effects with which i interferes, of all that the lists have
unfoldable pub interferers_of : List ℕ → List ℕ → List ℕ → List ℕ → ℕ → ℕ
interferers_of needs adds dels owners i = join_over (length needs) (λ j. keep (interfere_in needs adds dels owners i j) (single j))

-- as many of each
pub record Listed (needs adds dels owners : List ℕ) : Type 0 where
  pub adds_long : length adds ≡ length needs
  pub dels_long : length dels ≡ length needs
  pub owners_long : length owners ≡ length needs
