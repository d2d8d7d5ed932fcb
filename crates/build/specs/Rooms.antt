-- The build's answer, and the memory that it lends.
use Rattle.std.specs.Prelude.{ℕ, ◌≡◌, List, length}
use Rattle.rules.specs.Lists.{list_over}
use Rattle.rules.specs.Domain.{condition}
use Rattle.rules.specs.Shared.{start_label}
use Rattle.words.specs.Memory.{put_at}
use Rattle.words.specs.Rows.{row_length, columns_of}
use Rattle.together.specs.Interference.{interferers_of}
use Rattle.graph.specs.Format.{actions_of}
use Rattle.graph.specs.Build.{graph_for, looks_for, Counted}
use Rattle.graph.specs.declared.format.Counts.{Counts}
use Rattle.build.specs.declared.Built.{Built}

-- what a build counts
abbrev pub counted_words : Built → Counted
counted_words b = record { words = b.words; looked = b.looked }

-- what the code asks of the memory that is lent for the effects: how long each list is, and that no adder is there yet
pub record Empty (c : Counts) (needs adds dels owners adders interferers : List ℕ) : Type 0 where
  pub needs_long : length needs ≡ c.effects
  pub adds_long : length adds ≡ c.effects
  pub dels_long : length dels ≡ c.effects
  pub owners_long : length owners ≡ c.effects
  pub adders_long : length adders ≡ c.props
  pub interferers_long : length interferers ≡ c.effects
  pub no_adders : adders ≡ list_over (length adders) (λ p. 0)

-- the sets of the file's effects and the actions that own them, who adds each proposition, and who interferes with each effect
pub record Read (file : List ℕ) (c : Counts) (needs adds dels owners adders interferers : List ℕ) : Type 0 where
  pub needs_are : needs ≡ list_over c.effects (condition (actions_of file c))
  pub adds_are : adds ≡ list_over c.effects (actions_of file c).add
  pub dels_are : dels ≡ list_over c.effects (actions_of file c).del
  pub owners_are : owners ≡ list_over c.effects (actions_of file c).owner
  pub adders_are : adders ≡ columns_of c.props adds
  pub interferers_are : interferers ≡ list_over (length needs) (interferers_of needs adds dels owners)

-- the row of labels is that of layer 0 for these start states
abbrev pub Labels : Counts → (ℕ → ℕ) → List ℕ → Type 0
Labels c starts labels = labels ≡ list_over row_length (start_label c.states starts)

-- w is w₀ with the words of the graph in front, for the start states of these labels, and so many are its looks
abbrev pub Graph : List ℕ → Counts → ℕ → List ℕ → List ℕ → ℕ → List ℕ → Type 0
Graph file c depth labels w₀ looked w =
    (starts : ℕ → ℕ) → Labels c starts labels → (w ≡ put_at 0 (graph_for file c starts depth) w₀) × (looked ≡ looks_for file c starts depth)
