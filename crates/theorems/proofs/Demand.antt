-- What the calls promise together, of what they answer and write themselves: for every accepted file, every depth and memory that the build accepts,
-- every goal over the file's propositions and every non-empty set S of its states, on memory that begins with the words which the build writes.
-- A call's answer and memory are what its rule says (build_rule and count_rule, within_rule and count_within, extract_rule, level_rule, levels_rule, share_rule,
-- run_rule and report_rule, plan_rule). The setting is that of Setting.
-- What is said of a page of goals (page_rule) holds on any memory, and what is said of equal actions and of effects without an action of any file.
-- Assumes nothing.
use mathlib.Core.Path.{◌≡◌, ap, ◌∙◌}
use mathlib.Core.Bool.{So}
use mathlib.Core.List.{List, ◌∷◌, ◌++◌}
use Prim.Native.Nat.{ℕ, suc, ◌+◌, ◌*◌, ◌^◌, ◌≤◌, ◌<◌}
use lib.ListN.{length, get_or}
use Rattle.rules.specs.Test.{◌or◌}
use Rattle.rules.specs.Word.{bit, common, union, without, single, first, within}
use Rattle.rules.specs.Over.{count_below, sum_over}
use Rattle.rules.specs.Domain.{shape_of, SameActions, condition, clobbers, domain}
use Rattle.rules.specs.Layer.{label_in, mutex_in, props_in, actions_in}
use Rattle.rules.specs.Shared.{next_mutex}
use Rattle.rules.specs.Scan.{Scan, scanned, looks_of}
use Rattle.rules.proofs.Scans.{scanned_left, scanned_none, looked_all, all_looks_lem}
use Rattle.rules.specs.Level.{Level, level, never, not_by_depth}
use Rattle.rules.specs.Share.{Share, weight_of, total, enough}
use Rattle.rules.specs.Extract.{rank}
use Rattle.rules.specs.Run.{after, idle}
use Rattle.rules.specs.Plan.{relaxed_run}
use Rattle.rules.specs.Agreement.{OneState}
use Rattle.graph.specs.Limits.{max_depth}
use Rattle.graph.specs.Verdict.{accepted, refused, written, laid}
use Rattle.graph.specs.Format.{counts_in, actions_of, start_of, domain_of, with_count, with_states}
use Rattle.graph.specs.File.{file_rule}
use Rattle.graph.specs.Build.{build_rule, count_rule}
use Rattle.graph.specs.declared.format.Counts.{Counts}
use Rattle.level.specs.Rule.{level_rule, rest_rule}
use Rattle.within.specs.Rule.{possible_rule, within_rule, count_within, Levels, levels_rule}
use Rattle.share.specs.Rule.{weights_rule, share_rule}
use Rattle.page.specs.Rule.{entry_of, page_rule}
use Rattle.extract.specs.Rule.{extract_rule, states_of}
use Rattle.run.specs.Run.{max_steps, run_rule, Reported, idle_steps, report_rule}
use Rattle.plan.specs.Plan.{plan_rule}
use Rattle.plan.proofs.Built.{plan_accepted}
use Rattle.theorems.specs.Setting.{Exactly, Found, StatesOf, GoalOf, Each, alone, Largest, EndsWith, Reaches, said_by, EqualPair, FirstPair}
use Rattle.theorems.specs.Setting.{ByFired, Makes, Carries, FirstStray, Passes, Possible, NotPossible, Between}
use Rattle.theorems.specs.Setting.{Weighted, Numbers, holding, Holds, FirstShare}
use Rattle.theorems.proofs.Founds as founds
use Rattle.theorems.proofs.Levels as levels
use Rattle.theorems.proofs.Carried as carried
use Rattle.theorems.proofs.Bounds as bounds
use Rattle.theorems.proofs.Extracts as extracts
use Rattle.theorems.proofs.Plans as plans
use Rattle.theorems.proofs.Leaks as leaks
use Rattle.theorems.proofs.Pages as pages
use Rattle.theorems.proofs.Pairs as pairs
use Rattle.theorems.proofs.Effects as effects
use Rattle.theorems.proofs.Looks as scans
use Rattle.theorems.proofs.Within as lists
use Rattle.theorems.proofs.Shares as shares
use Rattle.theorems.proofs.Idles as idles

-- the memory after an accepted build is of this setting
pub build_leaves : (file : List ℕ) (c : Counts) (depth : ℕ) (memory words : List ℕ) → file_rule file ≡ accepted c
    → build_rule file depth (length memory) ≡ accepted words → Found file c depth (laid (build_rule file depth (length memory)) memory)
build_leaves = founds.build_leaves

-- and a single state is a set
pub one_state : (c : Counts) (s : ℕ) → s < c.states → StatesOf c (single s)
one_state = founds.one_state

module _ (file : List ℕ) (c : Counts) (depth : ℕ) (found : List ℕ) (built : Found file c depth found) where
  -- ---- 1: the extracted graph

  -- For S, extract gives number for number the words that the build gives for the file of the states of S only (with_states, states_of); room and memory
  -- hold a graph.
  pub extract_is_build : (set : ℕ) → StatesOf c set → (room memory : ℕ) → length built.words ≤ room → length built.words ≤ memory
      → (words : List ℕ) × (extract_rule file depth set found room ≡ accepted words) × (build_rule (with_states file c (states_of file c set)) depth memory
      ≡ accepted words)
  extract_is_build set some = extracts.extract_is_build built some

  -- So the memory after an extract is of this setting for that file, and all that is said here holds of it.
  pub extract_leaves : (set : ℕ) → StatesOf c set → (out : List ℕ) → length built.words ≤ length out
      → Found (with_states file c (states_of file c set)) (with_count c (rank set c.states)) depth (laid (extract_rule file depth set found (length out)) out)
  extract_leaves set some = extracts.extract_leaves built some

  -- For one state, bit 0 of every label and mutex word says what Graphplan's graph of that state says (own_props, own_actions), and every word is below 2.
  pub extract_one_is_graphplan : (s : ℕ) → s < c.states → (room : ℕ) → length built.words ≤ room
      → (words : List ℕ) × (extract_rule file depth (single s) found room ≡ accepted words) × OneState (domain_of file c) depth (start_of file c s) words
  extract_one_is_graphplan = extracts.extract_one built

  module _ (set : ℕ) (some : StatesOf c set) (goal : ℕ) (over : GoalOf c goal) where
    -- ---- 2: the level

    -- The level call answers a level, 'never' or 'not by depth'.
    pub level_answered : (a : Level) × (level_rule file depth set goal found ≡ accepted a)
    level_answered = (_, founds.level_answer built set goal some over)

    -- There is a level exactly when each state of S has one by itself.
    pub level_exists_exactly : Exactly ((t : ℕ) × (level_rule file depth set goal found ≡ accepted (level t)))
        (Each set (λ s. alone file c depth goal s ≤ depth))
    level_exists_exactly = levels.exists_exactly built some over

    -- And it is t exactly when t is the largest of these.
    pub level_is_largest : (t : ℕ) → Exactly (level_rule file depth set goal found ≡ accepted (level t)) ((t ≤ depth) × Largest file c depth set goal t)
    level_is_largest t = (levels.largest built some over t, λ (l, h). levels.answered built some over t l h)

    -- ---- 3: the bound

    -- No list of actions, of any length, that is carried out from each state of S, adds winning over deletes in each step (Makes), and ends with the goal
    -- is shorter than the level.
    pub level_bound : (t : ℕ) → level_rule file depth set goal found ≡ accepted (level t) → (list : List ℕ) → Reaches file c set goal list → t ≤ length list
    level_bound t e list r = bounds.level_bound built some over r t e

    -- 'never': there is none.
    pub never_bound : level_rule file depth set goal found ≡ accepted never → (list : List ℕ) → Reaches file c set goal list → ⊥
    never_bound e list r = bounds.never_bound built some over r e

    -- 'not by depth': there is none of at most so many steps.
    pub depth_bound : level_rule file depth set goal found ≡ accepted not_by_depth → (list : List ℕ) → Reaches file c set goal list → depth < length list
    depth_bound e list r = bounds.depth_bound built some over r e

    -- So it is with the lists that the run call accepts: of at most 65,535 numbers (max_steps), with room for the sets of all states, they are exactly these.
    pub run_exactly : (list : List ℕ) (room : ℕ) → length list ≤ max_steps → c.states ≤ room
        → Exactly (Reaches file c set goal list) ((ends : List ℕ) × (run_rule file set list room ≡ accepted ends) × EndsWith set goal ends)
    run_exactly list room short enough = (
      λ r. bounds.run_accepts built.taken some r room enough short,
      λ (ends, e, goals). bounds.run_reaches file built.taken set list room e goals,
    )

    -- ---- 4: the relaxed plan, with room for as many words as the depth

    -- A plan is answered only where the output has that room.
    pub plan_needs_room : (room : ℕ) (plan : List ℕ) → plan_rule file depth set goal found room ≡ accepted plan → depth ≤ room
    plan_needs_room room plan e = (plan_accepted file depth set goal found room plan e).fits

    module _ (room : ℕ) (enough : depth ≤ room) where
      -- A plan is answered exactly when there is a level, and has as many words.
      pub plan_exactly_when_level : (t : ℕ) → Exactly (level_rule file depth set goal found ≡ accepted (level t))
          ((plan : List ℕ) × (plan_rule file depth set goal found room ≡ accepted plan) × (length plan ≡ t))
      plan_exactly_when_level = plans.exactly_when_level built some over room enough

      -- Its words bring each state of S to the goal, deletes ignored.
      pub plan_reaches : (plan : List ℕ) → plan_rule file depth set goal found room ≡ accepted plan
          → Each set (λ s. So (within goal (relaxed_run (actions_of file c) plan (start_of file c s))))
      plan_reaches = plans.reaches built some over room enough

      -- Without a level that is said, by cause 13 ..
      pub no_plan_exactly : Exactly ((t : ℕ) → level_rule file depth set goal found ≡ accepted (level t) → ⊥)
          (plan_rule file depth set goal found room ≡ refused 13 depth)
      no_plan_exactly = plans.none_exactly built some over room enough

      -- .. and cause 14 is never answered.
      pub never_uncovered : (place : ℕ) → plan_rule file depth set goal found room ≡ refused 14 place → ⊥
      never_uncovered = plans.never_uncovered built some over room enough

-- ---- 5: no state depends on another

-- Two files with the same actions, each with its own start states. Whether a level that is not there is 'never' or 'not by depth' goes by the rest of
-- the whole graph, and is not claimed.
module _ (file : List ℕ) (c : Counts) (file' : List ℕ) (c' : Counts) (same : SameActions (actions_of file c) (actions_of file' c')) (depth : ℕ)
    (found found' : List ℕ)
    (built : Found file c depth found) (built' : Found file' c' depth found') where
  -- Bit s of every word is the same where state s is.
  pub no_leak_words : (s : ℕ) → s < c.states → s < c'.states → start_of file c s ≡ start_of file' c' s
      → (i : ℕ) → bit s (get_or built.words i 0) ≡ bit s (get_or built'.words i 0)
  no_leak_words = leaks.words_same file c file' c' same built built'

  -- So is the level of S, where each state of S is: for one state, S = single s.
  module _ (set : ℕ) (some : StatesOf c set) (some' : StatesOf c' set) (agree : Each set (λ s. start_of file c s ≡ start_of file' c' s))
      (goal : ℕ) (over : GoalOf c goal) where
    pub no_leak_level : (t : ℕ) → Exactly (level_rule file depth set goal found ≡ accepted (level t))
        (level_rule file' depth set goal found' ≡ accepted (level t))
    no_leak_level = leaks.level_same file c file' c' same built built' some some' over agree

    -- And so is its plan.
    pub no_leak_plan : (room : ℕ) → depth ≤ room → plan_rule file depth set goal found room ≡ plan_rule file' depth set goal found' room
    no_leak_plan = leaks.plan_same file c file' c' same built built' some some' over agree

-- ---- 6: a page of goals

-- A page is accepted exactly when the level call is for no goal, and the output has room: no goal turns it away, and with none no room is needed.
pub page_accepted_exactly : (file : List ℕ) (depth set : ℕ) (goals words : List ℕ) (room : ℕ)
    → Exactly ((entries : List ℕ) × (page_rule file depth set goals words room ≡ accepted entries))
    (((a : Level) × (level_rule file depth set 0 words ≡ accepted a)) × (length goals ≤ room))
page_accepted_exactly = pages.accepted_exactly

-- For every accepted page, on any words, junk too; `left` is the output after it.
module _ (file : List ℕ) (depth set : ℕ) (goals words out entries : List ℕ)
    (paged : page_rule file depth set goals words (length out) ≡ accepted entries) where
  abbrev left : List ℕ
  left = laid (page_rule file depth set goals words (length out)) out

  -- It answers the number of goals.
  pub page_answer : written (page_rule file depth set goals words (length out)) ≡ accepted (length goals)
  page_answer = pages.answer file depth set goals words out entries paged

  module _ (i : ℕ) where
    -- Entry i is the entry for what the level call gives for goal i, whatever the other goals are.
    pub page_entry : i < length goals → get_or left i 0 ≡ entry_of (level_rule file depth set (get_or goals i 0) words)
    page_entry = pages.entry file depth set goals words out entries paged i

    -- And it tells all of that: which level, 'never' or 'not by depth', or cause 8, and no other cause.
    pub page_tells : i < length goals → said_by (get_or left i 0) ≡ level_rule file depth set (get_or goals i 0) words
    page_tells = pages.tells file depth set goals words out entries paged i

    -- Past the entries the output stays.
    pub page_stays : length goals ≤ i → get_or left i 0 ≡ get_or out i 0
    page_stays = pages.stays file depth set goals words out entries paged i

-- ---- 7: equal actions

-- A file that a call takes has no two actions with the same three sets.
pub taken_unequal : (file : List ℕ) (c : Counts) → file_rule file ≡ accepted c → (b a : ℕ) → EqualPair file c b a → ⊥
taken_unequal = pairs.taken_none

-- Cause 15 is answered exactly for the files that have such a pair and pass the causes 1 to 5.
pub unequal_exactly : (file : List ℕ)
    → Exactly ((place : ℕ) × (file_rule file ≡ refused 15 place)) (Passes file × ((b : ℕ) × (a : ℕ) × EqualPair file (counts_in file) b a))
unequal_exactly = pairs.exactly

-- And its place is the offset of the later action of the pair whose later action comes first.
pub unequal_place : (file : List ℕ) (place : ℕ) → file_rule file ≡ refused 15 place → FirstPair file (counts_in file) place
unequal_place = pairs.names_first

-- ---- 8: conditional effects

-- Parts 1 to 6 hold of files of either version.

-- Each effect of a file that a call takes has an action.
pub taken_owned : (file : List ℕ) (c : Counts) → file_rule file ≡ accepted c → (e : ℕ) → e < c.effects → (actions_of file c).owner e < c.actions
taken_owned = effects.owned

-- Cause 16 is answered exactly for the files that have an effect without one and pass the causes 1 to 5.
pub stray_exactly : (file : List ℕ) → Exactly ((place : ℕ) × (file_rule file ≡ refused 16 place))
    (Passes file × ((e : ℕ) × (e < (counts_in file).effects) × ((counts_in file).actions ≤ (actions_of file (counts_in file)).owner e)))
stray_exactly = pairs.stray_exactly

-- And its place is the offset of the first such effect.
pub stray_place : (file : List ℕ) (place : ℕ) → file_rule file ≡ refused 16 place → FirstStray file (counts_in file) place
stray_place = pairs.stray_first

-- A file of version 1 means what its actions' three sets say.
module _ (file : List ℕ) (c : Counts) (taken : file_rule file ≡ accepted c) (one : c.version ≡ 1) where
  -- A vertex that is no persistence needs its action's precondition.
  pub version_1_needs : (e : ℕ) → e < c.effects → condition (actions_of file c) e ≡ (actions_of file c).pre e
  version_1_needs = effects.needs file c taken one

  -- In a step the action's deletes are removed and after that its adds joined (request Five).
  pub version_1_step : (a x : ℕ) → a < c.actions
      → after (actions_of file c) a x ≡ union (without x ((actions_of file c).del a)) ((actions_of file c).add a)
  version_1_step = effects.steps file c taken one

  -- Any two different vertices interfere when one deletes something the other needs or adds.
  pub version_1_interfere : (v w : ℕ) → (v ≡ w → ⊥)
      → (domain_of file c).interfere v w ≡ (clobbers (actions_of file c) v w or clobbers (actions_of file c) w v)
  unfolding domain
  version_1_interfere = effects.interfere file c taken one

-- ---- 9: pairs that are settled early

-- What the scan of a pair leaves is the mutex word of document 01, in every case: whatever n vertices add, over any layer and from any states.
pub scan_leaves_mutex : (n : ℕ) (adds : ℕ → ℕ) (a : List ℕ) (both p q : ℕ) → (scanned n adds a both p q).left ≡ next_mutex n adds a both p q
scan_leaves_mutex n adds a both p q = scanned_left n adds a p q both

-- Where a state is left the scan has looked at all there is: as often as vertices add p, times those that add q. Where labels share no state it does not look.
pub unsettled_looks : (n : ℕ) (adds : ℕ → ℕ) (a : List ℕ) (both p q : ℕ) → (next_mutex n adds a both p q ≡ 0 → ⊥)
    → (scanned n adds a both p q).looked ≡ count_below n (λ v. bit p (adds v)) * count_below n (λ v. bit q (adds v))
unsettled_looks n adds a both p q some = looked_all n adds a p q both some ∙ all_looks_lem n adds p q

pub unshared_looks : (n : ℕ) (adds : ℕ → ℕ) (a : List ℕ) (p q : ℕ) → (scanned n adds a 0 p q).looked ≡ 0
unshared_looks n adds a p q = ap (λ (s : Scan). s.looked) (scanned_none n adds a p q)

-- A build that is turned away answers no number of looks, and only such a one.
pub no_looks_exactly : (file : List ℕ) (depth room number place : ℕ)
    → Exactly (build_rule file depth room ≡ refused number place) (count_rule file depth room ≡ refused number place)
no_looks_exactly = scans.refused_exactly

-- In files of either version, by the layers as they lie in memory.
module _ (file : List ℕ) (c : Counts) (depth : ℕ) (found : List ℕ) (built : Found file c depth found) where
  abbrev props : ℕ → List ℕ
  props = props_in (shape_of (domain_of file c)) found

  abbrev actions : ℕ → List ℕ
  actions = actions_in (shape_of (domain_of file c)) found

  -- The scan of p and q over action layer t, from what their labels share in layer t + 1, leaves their mutex word of that layer.
  pub scan_leaves_word : (t : ℕ) → t < depth → (p q : ℕ) → p < q → q < (domain_of file c).props
      → (scanned (domain_of file c).vertices (domain_of file c).adds (actions t) (common (label_in (props (t + 1)) p) (label_in (props (t + 1)) q)) p q).left
      ≡ mutex_in (domain_of file c).props (props (t + 1)) p q
  scan_leaves_word = scans.leaves_word built

  -- how many vertices and pairs the scans look at in the step over action layer t
  abbrev looks : ℕ → ℕ
  looks t = looks_of (domain_of file c).props (domain_of file c).vertices (domain_of file c).adds (actions t)

  -- The build answers how many words it wrote, and the looks of all its steps.
  pub build_answers : count_rule file depth built.memory ≡ accepted (record { words = length built.words; looked = sum_over depth looks })
  build_answers = scans.answers built

  -- A step behind the layer at which the graph rests looks as often as the one at it, whose layers it copies.
  pub copies_look : (r : ℕ) → r < depth → props r ≡ props (r + 1) → (t : ℕ) → r ≤ t → t < depth → looks t ≡ looks r
  copies_look = scans.as_copied built

-- ---- 10: adds win over deletes

-- In files of either version. Part 3 speaks of lists that are carried out in such steps.
module _ (file : List ℕ) (c : Counts) (a x : ℕ) where
  -- The run's step makes of x what a fired effect adds, and what held and no fired effect deletes; and nothing else does.
  pub step_exactly : (y : ℕ) → Exactly (y ≡ after (actions_of file c) a x) (Makes (actions_of file c) a x y)
  step_exactly = carried.makes_exactly (actions_of file c) a x

  -- So what a fired effect adds is there after the step, whatever it or another one deletes.
  pub add_wins : (p : ℕ) → ByFired (actions_of file c) a x (actions_of file c).add p → So (bit p (after (actions_of file c) a x))
  add_wins = carried.adds_win (actions_of file c) a x

-- The sets that a run writes for the states of S are where its list is carried out to from each of them.
pub run_carries : (file : List ℕ) (c : Counts) → file_rule file ≡ accepted c → (set : ℕ) (list ends : List ℕ) (room : ℕ)
    → run_rule file set list room ≡ accepted ends → Each set (λ s. Carries (actions_of file c) list (start_of file c s) (get_or ends s 0))
run_carries file c taken set list ends room = bounds.run_carries file taken set list room

-- ---- 11: start states known within bounds

-- In files of either version. The file's states are the sure sets, `possible` is the lent list.
module _ (file : List ℕ) (c : Counts) (taken : file_rule file ≡ accepted c) (possible : List ℕ) where
  -- The list is accepted exactly when it has for each state a set over the file's propositions with all that is sure of it.
  pub possible_exactly : Exactly (possible_rule file c possible ≡ accepted tt) (Possible file c possible)
  possible_exactly = lists.possible_exactly file c possible

  -- The build that takes it answers cause 17, at any depth and with any memory, exactly when it is no such list, with this place.
  pub not_possible_exactly : (depth room place : ℕ)
      → Exactly (within_rule file possible depth room ≡ refused 17 place) (NotPossible file c possible place)
  not_possible_exactly = lists.refused_exactly file c possible taken

  module _ (right : Possible file c possible) where
    -- 'A graph written with the list counts everywhere as built for the file with the possible sets in place of its states': that is what the build writes
    -- and answers, accepted or not ..
    pub within_is_build : (depth room : ℕ) → (within_rule file possible depth room ≡ build_rule (with_states file c possible) depth room)
        × (count_within file possible depth room ≡ count_rule (with_states file c possible) depth room)
    within_is_build = lists.within_is_build file c possible taken right

    -- .. and the calls that read a graph answer with the file what they answer with that one, on any words.
    pub within_reads : (depth set goal : ℕ) (share : Share) (goals words : List ℕ) (room : ℕ)
        → (level_rule file depth set goal words ≡ level_rule (with_states file c possible) depth set goal words)
        × (share_rule file depth goal share words ≡ share_rule (with_states file c possible) depth goal share words)
        × (rest_rule file depth words ≡ rest_rule (with_states file c possible) depth words)
        × (page_rule file depth set goals words room ≡ page_rule (with_states file c possible) depth set goals words room)
        × (extract_rule file depth set words room ≡ extract_rule (with_states file c possible) depth set words room)
        × (plan_rule file depth set goal words room ≡ plan_rule (with_states file c possible) depth set goal words room)
    within_reads = lists.within_reads file c taken possible right

    -- A choice of states between the sure and the possible sets makes a file that is taken, and built where the file itself is.
    pub between_builds : (chosen : List ℕ) → Between file c possible chosen → (file_rule (with_states file c chosen) ≡ accepted c)
        × ((depth room : ℕ) (words : List ℕ) → build_rule file depth room ≡ accepted words
        → (words' : List ℕ) × (build_rule (with_states file c chosen) depth room ≡ accepted words'))
    between_builds = lists.between_builds file c taken possible right

  -- The memory after an accepted build with the list is of the setting for the file with the possible sets, and all that is said here holds of it.
  pub within_leaves : (depth : ℕ) (memory words : List ℕ) → within_rule file possible depth (length memory) ≡ accepted words
      → Found (with_states file c possible) c depth (laid (within_rule file possible depth (length memory)) memory)
  within_leaves = lists.within_leaves file c possible taken

-- 'both graphs are lent to the level call': p begins with that of the possible sets, s with that of the sure sets.
module _ (file : List ℕ) (c : Counts) (depth : ℕ) (possible p s : List ℕ) (right : Possible file c possible)
    (built_p : Found (with_states file c possible) c depth p) (built_s : Found file c depth s)
    (set : ℕ) (some : StatesOf c set) (goal : ℕ) (over : GoalOf c goal) where
  -- 'A goal and a set of states get two level answers', each what the single call answers for its graph.
  pub levels_answered : (answers : Levels) × (levels_rule file depth set goal p s ≡ accepted answers)
      × (level_rule (with_states file c possible) depth set goal p ≡ accepted answers.first) × (level_rule file depth set goal s ≡ accepted answers.second)
  levels_answered = lists.answered built_s built_p some over

  module _ (answers : Levels) (answered : levels_rule file depth set goal p s ≡ accepted answers) where
    -- 'For any choice of states lying between', with m that begins with the words built for the file of these states at that depth ..
    module _ (chosen : List ℕ) (between : Between file c possible chosen) (m : List ℕ) (built_m : Found (with_states file c chosen) c depth m) where
      -- .. 'the level at that depth is no smaller than the first answer' ..
      pub first_bounds : (t : ℕ) → level_rule (with_states file c chosen) depth set goal m ≡ accepted (level t)
          → (u : ℕ) × (answers.first ≡ level u) × (u ≤ t)
      first_bounds = lists.first_bounds right between built_p built_s built_m some over answers answered

      -- .. 'and no larger than the second'.
      pub second_bounds : (t : ℕ) → answers.second ≡ level t
          → (u : ℕ) × (level_rule (with_states file c chosen) depth set goal m ≡ accepted (level u)) × (u ≤ t)
      second_bounds = lists.second_bounds right between built_p built_s built_m some over answers answered

      -- 'If the first has no layer, none has' ..
      pub none_has : ((u : ℕ) → answers.first ≡ level u → ⊥) → (t : ℕ) → level_rule (with_states file c chosen) depth set goal m ≡ accepted (level t) → ⊥
      none_has none t e = let (u, q, l) = first_bounds t e in none u q

      -- .. 'if the second has one, all have.'
      pub all_have : (t : ℕ) → answers.second ≡ level t → (u : ℕ) × (level_rule (with_states file c chosen) depth set goal m ≡ accepted (level u))
      all_have t e = let (u, q, l) = second_bounds t e in (u, q)

    -- Where each possible set is the sure one, both answers are the same.
    pub same_answers : ((i : ℕ) → i < c.states → get_or possible i 0 ≡ start_of file c i) → answers.first ≡ answers.second
    same_answers same = lists.same_answers file c built_s.taken possible right same built_p built_s some over answers answered

-- ---- 12: enough of the weight

-- In files of either version. `holding` are the 'states with the whole goal, free of mutexes', in a layer of the words as found.
module _ (file : List ℕ) (c : Counts) (taken : file_rule file ≡ accepted c) where
  -- Weights and a share are accepted exactly when there is one weight for each state, not all of them 0, and the fraction is one of 0 to 1.
  pub share_exactly : (share : Share) → Exactly (weights_rule c.states share ≡ accepted tt) (Weighted c share)
  share_exactly = shares.share_exactly c

  module _ (depth goal : ℕ) (words : List ℕ) where
    -- The call answers cause 18, on any words, exactly when they are not, the depth and the goal being accepted ('after 8'), and with 'place 0' only.
    pub not_share_exactly : (share : Share) (place : ℕ) → Exactly (share_rule file depth goal share words ≡ refused 18 place)
        ((depth ≤ max_depth) × GoalOf c goal × (Weighted c share → ⊥) × (place ≡ 0))
    not_share_exactly = shares.refused_exactly file c taken depth goal words

    -- 'With share 1 and no zero weight the answer must be the level of all states': on any words, and where the call is turned away too.
    pub share_one_is_level : (share : Share) → Weighted c share → share.numerator ≡ share.denominator
        → ((s : ℕ) → s < c.states → get_or share.weights s 0 ≡ 0 → ⊥)
        → share_rule file depth goal share words ≡ level_rule file depth (first c.states) goal words
    share_one_is_level = shares.one_is_level file c taken depth goal words

    -- No state but the file's ever counts.
    pub share_counts_only : (t s : ℕ) → So (bit s (holding c words goal t)) → s < c.states
    share_counts_only = shares.none_else c words goal

    -- Two shares of the same weights, the second as large as the first or larger, on any words:
    module _ (share share' : Share) (right : Weighted c share) (right' : Weighted c share') (alike : share.weights ≡ share'.weights)
        (less : share.numerator * share'.denominator ≤ share'.numerator * share.denominator) where
      -- the larger one never has an earlier level, nor one where the smaller has none ..
      pub share_rises : (t' : ℕ) → share_rule file depth goal share' words ≡ accepted (level t')
          → (t : ℕ) × (share_rule file depth goal share words ≡ accepted (level t)) × (t ≤ t')
      share_rises = shares.larger_level file c taken depth goal words share share' right right' alike less

      -- .. and where the smaller is answered 'never' or 'not by depth', so is the larger.
      pub share_stays : (share_rule file depth goal share words ≡ accepted never → share_rule file depth goal share' words ≡ accepted never)
          × (share_rule file depth goal share words ≡ accepted not_by_depth → share_rule file depth goal share' words ≡ accepted not_by_depth)
      share_stays = (
        shares.larger_never file c taken depth goal words share share' right right' alike less,
        shares.larger_not_by_depth file c taken depth goal words share share' right right' alike less,
      )

  -- The two numbers that are compared stay below 2 ^ 38, whatever states count: with 64 states, weights and shares of 16 bits.
  pub share_fits : (share : Share) → Weighted c share → Numbers share → (set : ℕ)
      → (weight_of share.weights set * share.denominator < 2 ^ 38) × (total share.weights * share.numerator < 2 ^ 38)
  share_fits = shares.fits_words file c taken

module _ (file : List ℕ) (c : Counts) (depth : ℕ) (found : List ℕ) (built : Found file c depth found) (goal : ℕ) where
  -- A state counts in a layer exactly when that layer of its own graph has the whole goal, free of mutexes.
  pub share_counts : (t : ℕ) → t ≤ depth → (s : ℕ) → s < c.states → Exactly (So (bit s (holding c found goal t))) (Holds file c goal t s)
  share_counts = shares.counts built goal

  module _ (over : GoalOf c goal) (share : Share) (right : Weighted c share) where
    -- The call answers a level, 'never' or 'not by depth'.
    pub share_answered : (a : Level) × (share_rule file depth goal share found ≡ accepted a)
    share_answered = (_, shares.share_answer built over right)

    -- The level is t exactly when t is 'the first layer where the weight of states with the whole goal' is enough, up to the depth.
    pub share_is_first : (t : ℕ) → Exactly (share_rule file depth goal share found ≡ accepted (level t)) ((t ≤ depth) × FirstShare c share found goal t)
    share_is_first = shares.first_exactly built over right

    module _ (set : ℕ) (some : StatesOf c set) where
      -- 'with no such layer, never or not by depth as at the level': of any set that has none either
      pub share_as_level : ((t : ℕ) → share_rule file depth goal share found ≡ accepted (level t) → ⊥)
          → ((t : ℕ) → level_rule file depth set goal found ≡ accepted (level t) → ⊥)
          → share_rule file depth goal share found ≡ level_rule file depth set goal found
      share_as_level = shares.as_level built over right some

      -- A list that is carried out from states whose weight is enough, and ends with the goal in each of them, is no shorter than the level ..
      module _ (heavy : So (enough share set)) (list : List ℕ) (reaches : Reaches file c set goal list) where
        pub share_bound : (t : ℕ) → share_rule file depth goal share found ≡ accepted (level t) → t ≤ length list
        share_bound = shares.share_bound built over right some heavy reaches

        -- .. there is none at 'never', and none of at most so many steps at 'not by depth'.
        pub share_never_bound : share_rule file depth goal share found ≡ accepted never → ⊥
        share_never_bound = shares.share_never built over right some heavy reaches

        pub share_depth_bound : share_rule file depth goal share found ≡ accepted not_by_depth → depth < length list
        share_depth_bound = shares.share_depth built over right some heavy reaches

-- ---- 13: idle steps

-- In files of either version. A step of action a is idle for S where the states have the sets xs (idle) if it 'changed none' of the states of S.
module _ (file : List ℕ) (c : Counts) (set a : ℕ) (xs : List ℕ) where
  -- It is exactly when each state of S has after the step what it had before.
  pub idle_exactly : StatesOf c set
      → Exactly (So (idle (actions_of file c) c.states set a xs)) (Each set (λ s. after (actions_of file c) a (get_or xs s 0) ≡ get_or xs s 0))
  idle_exactly = idles.exactly file c set a xs

  -- So it is exactly when it is idle for each state of S alone ..
  pub idle_members : Exactly (So (idle (actions_of file c) c.states set a xs)) (Each set (λ s. So (idle (actions_of file c) c.states (single s) a xs)))
  idle_members = idles.members file c set a xs

  -- .. and what the states outside S have does not count.
  pub idle_in_set : (ys : List ℕ) → Each set (λ s. get_or xs s 0 ≡ get_or ys s 0)
      → idle (actions_of file c) c.states set a xs ≡ idle (actions_of file c) c.states set a ys
  idle_in_set = idles.in_set file c set a xs

-- A list has at most as many idle steps as steps.
pub idle_bound : (file : List ℕ) (c : Counts) (set : ℕ) (list : List ℕ) → idle_steps file c set list ≤ length list
idle_bound = idles.bound

-- 'A refused run reports no number': it answers its cause and place, and only such a one does.
pub refused_no_number : (file : List ℕ) (set : ℕ) (list : List ℕ) (room number place : ℕ)
    → Exactly (run_rule file set list room ≡ refused number place) (report_rule file set list room ≡ refused number place)
refused_no_number = idles.refused_exactly

module _ (file : List ℕ) (c : Counts) (taken : file_rule file ≡ accepted c) (set room : ℕ) where
  -- An accepted run answers how many sets it wrote, and with them 'the number of idle ones'.
  pub run_reports : (list ends : List ℕ) → run_rule file set list room ≡ accepted ends
      → report_rule file set list room ≡ accepted (record { sets = length ends; idle = idle_steps file c set list })
  run_reports list ends = idles.reports file taken set list room

  -- A step that comes behind the front of a list, and is idle where that ends:
  module _ (front back : List ℕ) (a : ℕ) (mid : List ℕ) (came : run_rule file set front room ≡ accepted mid)
      (still : So (idle (actions_of file c) c.states set a mid)) where
    -- left out, the end sets are the same, of all states, and the number is one less ..
    pub idle_left_out : (ends : List ℕ) → run_rule file set (front ++ a ∷ back) room ≡ accepted ends
        → (run_rule file set (front ++ back) room ≡ accepted ends) × (idle_steps file c set (front ++ a ∷ back) ≡ suc (idle_steps file c set (front ++ back)))
    idle_left_out ends e = (idles.left_out file taken set room front back a came still e, idles.one_less file taken set room front back a came still)

    -- .. and so it is reported.
    pub idle_one_less : (r : Reported) → report_rule file set (front ++ a ∷ back) room ≡ accepted r
        → (r' : Reported) × (report_rule file set (front ++ back) room ≡ accepted r') × (r'.sets ≡ r.sets) × (r.idle ≡ suc r'.idle)
    idle_one_less = idles.report_less file taken set room front back a came still

  module _ (list ends : List ℕ) (ran : run_rule file set list room ≡ accepted ends) where
    -- Where all steps are idle, each state of the file ends as it started.
    pub no_change : idle_steps file c set list ≡ length list → (s : ℕ) → s < c.states → get_or ends s 0 ≡ start_of file c s
    no_change = idles.no_change file taken set room list ran

    -- 'Authors trim their sequences': there is a list with the same end sets and no idle step, and it has as many steps as this one has that are not idle.
    pub trimmed : (left : List ℕ) × (run_rule file set left room ≡ accepted ends) × (idle_steps file c set left ≡ 0)
        × (length left + idle_steps file c set list ≡ length list)
    trimmed = idles.trimmed file taken set room list ran
