-- What the search for equal actions goes by. No rule of the paper: nothing here need be believed, since only that equal actions have equal marks is used.
use Rattle.std.specs.Prelude.{ℕ, suc, ◌+◌, ◌*◌, ◌/◌, ◌%◌, ◌≤◌, ◌<◌, ◌≡◌, List, length, get_or}
use Rattle.std.proofs.Math.Bool.{So}
use Rattle.rules.specs.Domain.{Actions}
use Rattle.graph.specs.Limits.{max_actions}
use Rattle.graph.specs.Format.{set_bytes, plain, action_at}
use Rattle.graph.specs.File.{Ranged, equal_actions}
use Rattle.graph.specs.declared.format.Counts.{Counts}

-- what is asked of the file: it has version 1, and all its bytes
abbrev pub PlainFile : List ℕ → Counts → Type 0
PlainFile file c = Ranged c × So (plain c) × (length file ≡ action_at c.actions + set_bytes * c.states)

-- how many marks there are
abbrev pub marks : ℕ
marks = 256

-- the mark of an action: what it needs and adds, spread over the marks
unfoldable pub spread : ℕ → ℕ → ℕ
spread needs adds = (needs + 5 * adds) % 4294967296 * 2654435769 % 4294967296 / 16777216

unfoldable pub mark_of : Actions → ℕ → ℕ
mark_of A a = spread (A.pre a) (A.add a)

-- of the first n actions the last one with the mark m, counted from 1, and 0 where there is none
pub record Last (A : Actions) (n m last : ℕ) : Type 0 where
  pub within : last ≤ n
  pub marked : (b : ℕ) → last ≡ suc b → mark_of A b ≡ m
  pub none_later : (b : ℕ) → b < n → mark_of A b ≡ m → b < last

-- each of the first n actions leads to the last one before it with its mark, and no other leads anywhere
pub record Chained (A : Actions) (n : ℕ) (befores : List ℕ) : Type 0 where
  pub room : length befores ≡ max_actions
  pub each : (a : ℕ) → a < n → Last A a (mark_of A a) (get_or befores a 0)
  pub rest : (a : ℕ) → n ≤ a → a < max_actions → get_or befores a 0 ≡ 0

-- and each mark to the last one with it
pub record Marked (A : Actions) (n : ℕ) (lasts : List ℕ) : Type 0 where
  pub full : length lasts ≡ marks
  pub each : (m : ℕ) → m < marks → Last A n m (get_or lasts m 0)

-- the first action after b and before the end that equals b, and the end where there is none
pub record After (A : Actions) (b end r : ℕ) : Type 0 where
  pub within : r ≤ end
  pub found : r < end → (b < r) × So (equal_actions A b r)
  pub none : (a : ℕ) → b < a → a < r → So (equal_actions A b a) → ⊥
