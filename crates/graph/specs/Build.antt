-- The build.
use Rattle.std.specs.Prelude.{ℕ, List, length}
use Rattle.rules.specs.Shared.{graph_words}
use Rattle.rules.specs.Scan.{looks_in}
use Rattle.graph.specs.Verdict.{Verdict, accepted, refused, and_then}
use Rattle.graph.specs.Format.{domain_of, start_of, counts_in}
use Rattle.graph.specs.File.{file_rule}
use Rattle.graph.specs.Checks.{graph_rule}
use Rattle.graph.specs.declared.format.Counts.{Counts}

-- the words of the graph of a file that was taken, for any start states, as many as it has, and for its own
abbrev pub graph_for : List ℕ → Counts → (ℕ → ℕ) → ℕ → List ℕ
graph_for file c start depth = graph_words (domain_of file c) c.states start depth

abbrev pub graph_of : List ℕ → Counts → ℕ → List ℕ
graph_of file c depth = graph_for file c (start_of file c) depth

-- request Four: 'how many vertices and pairs its scans looked at in all'
abbrev pub looks_for : List ℕ → Counts → (ℕ → ℕ) → ℕ → ℕ
looks_for file c start depth = looks_in (domain_of file c) c.states start depth

abbrev pub graph_looks : List ℕ → Counts → ℕ → ℕ
graph_looks file c depth = looks_for file c (start_of file c) depth

-- the file being taken: causes 6 and 9, or the words that are written into a memory of so many
unfoldable pub build_for : List ℕ → Counts → (ℕ → ℕ) → ℕ → ℕ → Verdict (List ℕ)
build_for file c start depth room = and_then (graph_rule c depth (accepted tt) room) (λ _. accepted (graph_for file c start depth))

-- 'The build takes file, depth and memory': the file's causes, and then that for its start states
unfoldable pub build_rule : List ℕ → ℕ → ℕ → Verdict (List ℕ)
build_rule file depth room = and_then (file_rule file) (λ c. build_for file c (start_of file c) depth room)

-- what an accepted build answers: the number of words written, and of looks
pub record Counted : Type 0 where
  pub words : ℕ
  pub looked : ℕ

-- of a build that gives these words and takes so many looks
unfoldable pub counted : ℕ → Verdict (List ℕ) → Verdict Counted
counted looked (accepted words) = accepted (record { words = length words; looked = looked })
counted looked (refused number place) = refused number place

-- 'The words are the same as before; the build also answers' the looks
unfoldable pub count_rule : List ℕ → ℕ → ℕ → Verdict Counted
count_rule file depth room = counted (graph_looks file (counts_in file) depth) (build_rule file depth room)
