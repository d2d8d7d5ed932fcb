-- Enough of the weight (document 02, request Seven): what turns the call away, cause by cause, and what it answers once accepted.
use Rattle.std.specs.Prelude.{ℕ, Bool, List, length, get_or}
use Rattle.rules.specs.Test.{◌or◌, fails, same, below, choose}
use Rattle.rules.specs.Over.{all_below}
use Rattle.rules.specs.Level.{Level}
use Rattle.rules.specs.Share.{Share, share_level}
use Rattle.graph.specs.Verdict.{Verdict, accepted, refused, and_then}
use Rattle.graph.specs.Format.{shape_in}
use Rattle.graph.specs.File.{file_rule}
use Rattle.graph.specs.Checks.{goal_rule, graph_rule}
use Rattle.graph.specs.declared.format.Counts.{Counts}

-- 'all zero'
unfoldable pub all_zero : List ℕ → Bool
all_zero weights = all_below (length weights) (λ s. same (get_or weights s 0) 0)

-- 18: 'weights not N long, all zero, denominator 0, or numerator above denominator, place 0'
unfoldable pub weights_rule : ℕ → Share → Verdict (Unit {0})
weights_rule states share =
    choose (fails (same (length share.weights) states) or all_zero share.weights or same share.denominator 0
    or below share.denominator share.numerator)
    (refused 18 0) (accepted tt)

-- 8, and 18 'after 8': the call takes a goal and no set of states
unfoldable pub wanted_rule : Counts → ℕ → Share → Verdict (Unit {0})
wanted_rule c goal share = and_then (goal_rule c.props goal) (λ _. weights_rule c.states share)

-- the file being taken: 6, then these, then 9, or the level
unfoldable pub share_taken : Counts → ℕ → ℕ → Share → List ℕ → Verdict Level
share_taken c depth goal share words =
    and_then (graph_rule c depth (wanted_rule c goal share) (length words)) (λ _. accepted (share_level (shape_in c) depth share goal words))

-- the file's causes, and then that
unfoldable pub share_rule : List ℕ → ℕ → ℕ → Share → List ℕ → Verdict Level
share_rule file depth goal share words = and_then (file_rule file) (λ c. share_taken c depth goal share words)
