-- Start states known within bounds (document 02, request Six): what turns the two calls away, cause by cause, and what each answers once accepted.
-- 'The file's states are read as the sure sets and a lent list gives the possible sets, one for each.'
use Rattle.std.specs.Prelude.{ℕ, ◌^◌, Bool, List, length, get_or}
use Rattle.rules.specs.Test.{◌and◌, fails, same, below, choose}
use Rattle.rules.specs.Word.{within}
use Rattle.rules.specs.Over.{first_below}
use Rattle.rules.specs.Level.{Level}
use Rattle.graph.specs.Verdict.{Verdict, accepted, refused, and_then}
use Rattle.graph.specs.Format.{start_of, counts_in}
use Rattle.graph.specs.File.{file_rule}
use Rattle.graph.specs.Build.{build_for, looks_for, Counted, counted}
use Rattle.graph.specs.declared.format.Counts.{Counts}
use Rattle.within.specs.declared.Levels as C
use Rattle.level.specs.Rule.{level_said, level_rule}

-- the set of state s in a list
abbrev pub set_of : List ℕ → ℕ → ℕ
set_of sets s = get_or sets s 0

-- a set that neither 'lacks a sure proposition' nor 'has bit P or above'
unfoldable pub encloses : ℕ → ℕ → ℕ → Bool
encloses props sure set = within sure set and below set (2 ^ props)

-- 'the number of the first such state', whose possible set does one of these, of n states with these sure sets; n where there is none
unfoldable pub first_open : ℕ → ℕ → (ℕ → ℕ) → List ℕ → ℕ
first_open props n sure possible = first_below n (λ s. fails (encloses props (sure s) (set_of possible s)))

-- 17: 'the list is not N long, or a possible set lacks a sure proposition or has bit P or above, place the number of the first such state, N for the
-- length, which is looked at first'
unfoldable pub bounds_rule : ℕ → ℕ → (ℕ → ℕ) → List ℕ → Verdict (Unit {0})
bounds_rule props n sure possible =
    let s = first_open props n sure possible in
    choose (same (length possible) n) (choose (below s n) (refused 17 s) (accepted tt)) (refused 17 n)

-- 'The file's states are read as the sure sets'
abbrev pub possible_rule : List ℕ → Counts → List ℕ → Verdict (Unit {0})
possible_rule file c possible = bounds_rule c.props c.states (start_of file c) possible

-- 17 ('before 6'), then causes 6 and 9, or the words of the graph 'built for the possible sets'
unfoldable pub within_taken : List ℕ → Counts → List ℕ → ℕ → ℕ → Verdict (List ℕ)
within_taken file c possible depth room = and_then (possible_rule file c possible) (λ _. build_for file c (set_of possible) depth room)

-- 'A build that takes the list besides the file writes the former': 'after the file's checks'
unfoldable pub within_rule : List ℕ → List ℕ → ℕ → ℕ → Verdict (List ℕ)
within_rule file possible depth room = and_then (file_rule file) (λ c. within_taken file c possible depth room)

-- with the looks, as a build's
unfoldable pub count_within : List ℕ → List ℕ → ℕ → ℕ → Verdict Counted
count_within file possible depth room = counted (looks_for file (counts_in file) (set_of possible) depth) (within_rule file possible depth room)

-- 'two level answers, from the graph built for the possible sets and from the one for the sure sets'
pub record Levels : Type 0 where
  pub first : Level
  pub second : Level

-- two single calls' answers as one: turned away where one of them is
unfoldable pub both : Verdict Level → Verdict Level → Verdict Levels
both first second = and_then first (λ l. and_then second (λ m. accepted (record { first = l; second = m })))

-- 'both graphs are lent to the level call': each answer is the single call's on its words
unfoldable pub levels_rule : List ℕ → ℕ → ℕ → ℕ → List ℕ → List ℕ → Verdict Levels
levels_rule file depth set goal possible sure = both (level_rule file depth set goal possible) (level_rule file depth set goal sure)

-- what an answer says
abbrev pub levels_said : C.Levels → Levels
levels_said l = record { first = level_said l.first; second = level_said l.second }
