-- The rule of extract, its causes in order, and the start states of S.
use Rattle.std.specs.Prelude.{ℕ, List, length}
use Rattle.rules.specs.Lists.{list_over}
use Rattle.rules.specs.Layer.{word_count}
use Rattle.rules.specs.Extract.{rank, chosen, extract_of}
use Rattle.graph.specs.Verdict.{Verdict, accepted, and_then}
use Rattle.graph.specs.Format.{start_of, shape_in}
use Rattle.graph.specs.File.{file_rule}
use Rattle.graph.specs.Checks.{set_rule, output_rule, graph_rule}
use Rattle.graph.specs.declared.format.Counts.{Counts}

-- the file being taken: causes 6, 7, 9 and 10, or 'the words of the same graph cut to S, bits closed up in order': of words as found, with room for so many
unfoldable pub extract_taken : Counts → ℕ → ℕ → List ℕ → ℕ → Verdict (List ℕ)
extract_taken c depth set words room =
    and_then (graph_rule c depth (set_rule c.states set) (length words)) (λ _.
    and_then (output_rule (word_count (shape_in c) depth) room) (λ _.
    accepted (extract_of (shape_in c) c.states depth set words)))

-- the file's causes, and then that: 'Accepted, a build or extract answers the number of words written'
unfoldable pub extract_rule : List ℕ → ℕ → ℕ → List ℕ → ℕ → Verdict (List ℕ)
extract_rule file depth set words room = and_then (file_rule file) (λ c. extract_taken c depth set words room)

-- 'just these start states in rising number': those of S, so that `withStates file c (states_of file c set)` is the file of the states of S only
unfoldable pub states_of : List ℕ → Counts → ℕ → List ℕ
states_of file c set = list_over (rank set c.states) (λ j. start_of file c (chosen c.states set j))
