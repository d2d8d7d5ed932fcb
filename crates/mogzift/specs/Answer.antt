-- An answer in numbers: the value that a call returns, and the three that it tells.
use Rattle.std.specs.Prelude.{ℕ, List, [], ◌∷◌}
use Rattle.rules.specs.Level.{Level, level, never, not_by_depth, Rest, rests_at, none}
use Rattle.graph.specs.Verdict.{Verdict, accepted, refused}
use Rattle.graph.specs.Build.{Counted}
use Rattle.page.specs.Rule.{entry_of}
use Rattle.within.specs.Rule.{Levels}
use Rattle.run.specs.Run.{Reported}
use Rattle.plan.specs.Plan.{Made}

-- the value returned: 0 where the call is accepted, else the paper's number of the cause
unfoldable pub code_of : {X : Type 0} → Verdict X → ℕ
code_of (accepted x) = 0
code_of (refused number place) = number

-- the numbers told: what an accepted call says of its answer; of a call turned away kind 0, the number and the place
unfoldable pub answer_of : {X : Type 0} → (X → List ℕ) → Verdict X → List ℕ
answer_of says (accepted x) = says x
answer_of says (refused number place) = 0 ∷ number ∷ place ∷ []

-- kind 1: a page, an extract or a text, with how many entries, words or bytes it wrote
abbrev pub count_says : ℕ → List ℕ
count_says count = 1 ∷ count ∷ 0 ∷ []

-- kind 1: a build, with how many words it wrote, and how many vertices and pairs its scans looked at
abbrev pub build_says : Counted → List ℕ
build_says graph = 1 ∷ graph.words ∷ graph.looked ∷ []

-- kind 1: the graph rests at this layer; kind 2: 'none'
abbrev pub rest_says : Rest → List ℕ
rest_says (rests_at t) = 1 ∷ t ∷ 0 ∷ []
rest_says none = 2 ∷ 0 ∷ 0 ∷ []

-- kind 1: the goal has this level; kind 2: 'never'; kind 3: 'not by depth'
abbrev pub level_says : Level → List ℕ
level_says (level t) = 1 ∷ t ∷ 0 ∷ []
level_says never = 2 ∷ 0 ∷ 0 ∷ []
level_says not_by_depth = 3 ∷ 0 ∷ 0 ∷ []

-- kind 1: two levels, each as an entry of a page
abbrev pub levels_says : Levels → List ℕ
levels_says levels = 1 ∷ entry_of (accepted levels.first) ∷ entry_of (accepted levels.second) ∷ []

-- kind 1: a run, with how many sets it wrote, and how many of its steps were idle
abbrev pub run_says : Reported → List ℕ
run_says run = 1 ∷ run.sets ∷ run.idle ∷ []

-- kind 1: a plan, with its level, which is the number of words it wrote, and how many actions it marks
abbrev pub plan_says : Made → List ℕ
plan_says plan = 1 ∷ plan.level ∷ plan.count ∷ []

-- kind 1: the greatest depth that fits
abbrev pub depth_says : ℕ → List ℕ
depth_says depth = 1 ∷ depth ∷ 0 ∷ []
