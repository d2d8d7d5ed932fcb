-- The caller's checks that calls share: a link for each cause, and the chain of causes 6 to 9 of a call that reads or writes a graph.
use Rattle.std.specs.Prelude.{ℕ, ◌^◌, ◌≤◌, ◌≡◌, List, length}
use Rattle.rules.specs.Test.{◌or◌, fails, same, below, choose}
use Rattle.rules.specs.Layer.{word_count}
use Rattle.rules.specs.declared.Shape.{Shape}
use Rattle.words.specs.Width.{prop_width}
use Rattle.graph.specs.Limits.{max_depth, max_vertices}
use Rattle.graph.specs.Verdict.{Verdict, accepted, refused, and_then}
use Rattle.graph.specs.Format.{shape_in}
use Rattle.graph.specs.declared.format.Counts.{Counts}

-- 6: 'depth above 255 (place 255)'
unfoldable pub depth_rule : ℕ → Verdict (Unit {0})
depth_rule depth = choose (below max_depth depth) (refused 6 max_depth) (accepted tt)

-- 7: 'S empty, or bit N or above (place 0)'
unfoldable pub set_rule : ℕ → ℕ → Verdict (Unit {0})
set_rule states set = choose (same set 0 or fails (below set (2 ^ states))) (refused 7 0) (accepted tt)

-- 8: 'goal with bit P or above (place 0)'
unfoldable pub goal_rule : ℕ → ℕ → Verdict (Unit {0})
goal_rule props goal = choose (below goal (2 ^ props)) (accepted tt) (refused 8 0)

-- 9: 'graph memory too short (words needed)'
unfoldable pub memory_rule : ℕ → ℕ → Verdict (Unit {0})
memory_rule wanted have = choose (below have wanted) (refused 9 wanted) (accepted tt)

-- 10: 'output too short .. (elements needed)'
unfoldable pub output_rule : ℕ → ℕ → Verdict (Unit {0})
output_rule wanted have = choose (below have wanted) (refused 10 wanted) (accepted tt)

-- 7 and 8, for a call that takes a set of states and a goal
unfoldable pub asked_rule : Counts → ℕ → ℕ → Verdict (Unit {0})
asked_rule c set goal = and_then (set_rule c.states set) (λ _. goal_rule c.props goal)

-- 6 to 9, 'for the calls that take the thing': `asked` is what holds of the set and the goal, `accepted` for a call that takes neither
unfoldable pub graph_rule : Counts → ℕ → Verdict (Unit {0}) → ℕ → Verdict (Unit {0})
graph_rule c depth asked have =
    and_then (depth_rule depth) (λ _.
    and_then asked (λ _.
    memory_rule (word_count (shape_in c) depth) have))

-- what has passed with it
pub record Passed (c : Counts) (depth : ℕ) (asked : Verdict (Unit {0})) (have : ℕ) : Type 0 where
  pub deep : depth ≤ max_depth
  pub fine : asked ≡ accepted tt
  pub fits : word_count (shape_in c) depth ≤ have

-- what the code asks that reads the layers up to k from the words: the numbers are those of a file, and the words are there
pub record Small (S : Shape) : Type 0 where
  pub props : S.props ≤ prop_width
  pub vertices : S.vertices ≤ max_vertices

pub record Room (S : Shape) (k : ℕ) (words : List ℕ) : Type 0 where
  pub small : Small S
  pub deep : k ≤ max_depth
  pub fits : word_count S k ≤ length words
