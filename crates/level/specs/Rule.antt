-- The rules of the two calls: what turns each away, cause by cause, and what it answers once accepted ('Level and rest').
use Rattle.std.specs.Prelude.{ℕ, List, Option, Some, None, length}
use Rattle.rules.specs.Level.{Level, level, never, not_by_depth, level_of, Rest, rests_at, none, rest_of}
use Rattle.graph.specs.Verdict.{Verdict, accepted, and_then}
use Rattle.graph.specs.Format.{shape_in}
use Rattle.graph.specs.File.{file_rule}
use Rattle.graph.specs.Checks.{asked_rule, graph_rule}
use Rattle.graph.specs.declared.format.Counts.{Counts}
use Rattle.level.specs.declared.layers.Level as C
use Rattle.level.specs.declared.layers.Level.TheVariants as said

-- what a level says
abbrev pub level_said : C.Level → Level
level_said (said.At t) = level t
level_said said.Never = never
level_said said.NotByDepth = not_by_depth

-- what a rest says: 'A call of its own answers its layer, or none.'
abbrev pub rest_said : Option ℕ → Rest
rest_said (Some t) = rests_at t
rest_said None = none

-- causes 6 to 9 of a level, the file being taken: 'Level, rest, extract and plan take the file and depth again and read the graph words as found, junk or not'
unfoldable pub level_taken : Counts → ℕ → ℕ → ℕ → List ℕ → Verdict Level
level_taken c depth set goal words =
    and_then (graph_rule c depth (asked_rule c set goal) (length words)) (λ _. accepted (level_of (shape_in c) depth set goal words))

-- 'Checks go in rising number, for the calls that take the thing': 1 to 9 for a level
unfoldable pub level_rule : List ℕ → ℕ → ℕ → ℕ → List ℕ → Verdict Level
level_rule file depth set goal words = and_then (file_rule file) (λ c. level_taken c depth set goal words)

-- causes 6 and 9 of a rest, the file being taken
unfoldable pub rest_taken : Counts → ℕ → List ℕ → Verdict Rest
rest_taken c depth words = and_then (graph_rule c depth (accepted tt) (length words)) (λ _. accepted (rest_of (shape_in c) depth words))

-- the file's causes, 6 and 9 for a rest
unfoldable pub rest_rule : List ℕ → ℕ → List ℕ → Verdict Rest
rest_rule file depth words = and_then (file_rule file) (λ c. rest_taken c depth words)
