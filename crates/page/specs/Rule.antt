-- The rule of a page of goals (document 02, request One): what turns it away, cause by cause, and its entries.
use Rattle.std.specs.Prelude.{ℕ, List, length, get_or}
use Rattle.rules.specs.Lists.{list_over}
use Rattle.rules.specs.Level.{Level, level, never, not_by_depth}
use Rattle.graph.specs.Verdict.{Verdict, accepted, refused, and_then}
use Rattle.graph.specs.File.{file_rule}
use Rattle.graph.specs.Checks.{set_rule, output_rule, graph_rule}
use Rattle.graph.specs.declared.format.Counts.{Counts}
use Rattle.level.specs.Rule.{level_rule}

-- the entries that are no level
abbrev pub never_entry : ℕ
never_entry = 256

abbrev pub not_by_depth_entry : ℕ
not_by_depth_entry = 257

abbrev pub goal_entry : ℕ
goal_entry = 258

-- 'the level, 256 for never, 257 for not by depth, 258 for its refusal 8': the entry for what the single call gives
abbrev pub entry_of : Verdict Level → ℕ
entry_of (accepted (level t)) = t
entry_of (accepted never) = never_entry
entry_of (accepted not_by_depth) = not_by_depth_entry
entry_of (refused number place) = goal_entry

-- 'Entry i must be what the single call gives for goal i'
unfoldable pub entries : (ℕ → Verdict Level) → List ℕ → List ℕ
entries single goals = list_over (length goals) (λ i. entry_of (single (get_or goals i 0)))

-- the file being taken: causes 6, 7, 9 and 10 ('an output list too short is 10'), and no cause 8 of its own; else the entries, by what the single call gives for a goal
unfoldable pub page_taken : (ℕ → Verdict Level) → Counts → ℕ → ℕ → List ℕ → ℕ → ℕ → Verdict (List ℕ)
page_taken single c depth set goals have room =
    and_then (graph_rule c depth (set_rule c.states set) have) (λ _.
    and_then (output_rule (length goals) room) (λ _.
    accepted (entries single goals)))

-- the file's causes, and then that; an answer says how many entries were written, one for each goal: 'what the single call gives' is the rule of the level
unfoldable pub page_rule : List ℕ → ℕ → ℕ → List ℕ → List ℕ → ℕ → Verdict (List ℕ)
page_rule file depth set goals words room =
    and_then (file_rule file) (λ c. page_taken (λ goal. level_rule file depth set goal words) c depth set goals (length words) room)
