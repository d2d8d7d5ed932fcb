-- Layer behind layer, and steps that end where the graph rests.
use Rattle.std.specs.Prelude.{ℕ, ◌+◌, ◌-◌, ◌*◌, ◌≤◌, ◌<◌, ◌≡◌, List, length}
use Rattle.rules.specs.declared.Shape.{Shape}
use Rattle.rules.specs.Lists.{run_over}
use Rattle.rules.specs.Domain.{Domain}
use Rattle.rules.specs.Layer.{size, word_count}
use Rattle.rules.specs.Shared.{prop_from}
use Rattle.rules.specs.Scan.{looks_from}
use Rattle.words.specs.Memory.{put_at}
use Rattle.layers.specs.Step.{Mating, step_words}
use Rattle.graph.specs.Limits.{max_depth}
use Rattle.graph.specs.Checks.{Small}

-- t of `depth` steps over the layer l make w of w₀; if they end before the depth, layer t, labels and mutex words, equals the one before it.
-- All steps of the depth look so many times
pub record Ended (D : Domain) (all : ℕ) (l : List ℕ) (depth : ℕ) (w₀ : List ℕ) (t looked : ℕ) (w : List ℕ) : Type 0 where
  pub within : t ≤ depth
  pub is : w ≡ put_at (size D.props) (run_over t (λ k. step_words D all (prop_from D all l k))) w₀
  pub rests : t < depth → (0 < t) × (prop_from D all l (t - 1) ≡ prop_from D all l t)
  pub looks : looked ≡ looks_from D all l depth

-- what the code asks of the lists of a step, and of the memory
pub record Lent (n width span depth : ℕ) (needs adders words : List ℕ) : Type 0 where
  pub mating : Mating n width span needs adders
  pub deep : depth ≤ max_depth
  pub fits : size n + depth * (size (length needs + n) + size n) ≤ length words

-- how many words are copied at once, from where as many lie between
abbrev pub block_length : ℕ
block_length = 1024

-- what it asks that copies the last of `done` steps up to the depth
pub record Left (S : Shape) (done depth : ℕ) (words : List ℕ) : Type 0 where
  pub small : Small S
  pub deep : depth ≤ max_depth
  pub within : done ≤ depth
  pub some : done < depth → 0 < done
  pub fits : word_count S depth ≤ length words
