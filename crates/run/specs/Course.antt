-- What the steps of a run go by: what some state of the set lacks and what some state of it has, in one word, and, in version 1, what each action makes of
-- that word.
use Rattle.std.specs.Prelude.{ℕ, zero, suc, ◌+◌, ◌-◌, ◌*◌, ◌/◌, ◌%◌, ◌^◌, ◌≤◌, ◌<◌, ◌≡◌, List, Result, Ok, Err, length, get_or}
use Rattle.rules.specs.Test.{fails, same, below, choose}
use Rattle.rules.specs.Word.{bit, common, union, without, first}
use Rattle.rules.specs.Over.{keep, join_of}
use Rattle.rules.specs.Lists.{list_over}
use Rattle.rules.specs.Domain.{Actions}
use Rattle.words.specs.Width.{prop_width, word_width}
use Rattle.graph.specs.File.{Taken}
use Rattle.graph.specs.declared.format.Counts.{Counts}
use Rattle.run.specs.declared.step.Walked.{Walked}
use Rattle.run.specs.declared.step.Made.{Made}
use Rattle.run.specs.declared.step.Unmade.{Unmade}
use Rattle.run.specs.declared.step.Unmade.TheVariants as unmade
use Rattle.run.specs.declared.step.Change.{Change}
use Rattle.run.specs.declared.step.Change.TheVariants as change

-- every number of the list is below n
abbrev pub Known : ℕ → List ℕ → Type 0
Known n list = (i : ℕ) → i < length list → get_or list i 0 < n

-- the set is one that is taken: it names some of the n states, and no others
pub record Some (n set : ℕ) : Type 0 where
  pub some : 0 < set
  pub inside : set < 2 ^ n

-- what a run goes by once every check is passed
pub record Checked (file : List ℕ) (c : Counts) (set : ℕ) (list out : List ℕ) : Type 0 where
  pub taken : Taken file c
  pub some : Some c.states set
  pub known : Known c.actions list
  pub fits : c.states ≤ length out

-- three lists with a word for each of n actions
pub record PerAction (n : ℕ) (needs leave bring : List ℕ) : Type 0 where
  pub needs_long : length needs ≡ n
  pub leave_long : length leave ≡ n
  pub bring_long : length bring ≡ n

-- ---- the word

-- two words of propositions in one: the first below, the second above it
unfoldable pub pack : ℕ → ℕ → ℕ
pack low high = union low (high * 2 ^ prop_width)

-- of a state that has x: what it lacks, and above that what it has
unfoldable pub literals : ℕ → ℕ
literals x = pack (first prop_width - x) x

-- of the states of a set: what some of them lack, and above that what some of them have
unfoldable pub course : ℕ → ℕ → (ℕ → ℕ) → ℕ
course n set sets = join_of n set (λ s. literals (sets s))

-- what a state of the set has, if it started with x: of that what some state has still, and what none lacks
unfoldable pub came : ℕ → ℕ → ℕ
came w x = union (common x (w / 2 ^ prop_width)) (first prop_width - w % 2 ^ prop_width)

-- of the deletes and adds of a step in every state of the set: what it leaves of the word
unfoldable pub leaves : ℕ → ℕ → ℕ
leaves del add = first word_width - pack add (without del add)

-- and what it brings: 'Deletes are removed first, adds joined after'
unfoldable pub brings : ℕ → ℕ → ℕ
brings del add = pack (without del add) add

-- of an action
unfoldable pub leaves_of : Actions → ℕ → ℕ
leaves_of A a = leaves (A.del a) (A.add a)

unfoldable pub brings_of : Actions → ℕ → ℕ
brings_of A a = brings (A.del a) (A.add a)

-- one step more
unfoldable pub further : ℕ → ℕ → ℕ → ℕ
further leave bring w = union (common w leave) bring

-- a step with this precondition, which does the same in every state of the set, tried on the word: 'precondition missing', or what is left of the word and
-- what has become of it
unfoldable pub tried_on : ℕ → ℕ → ℕ → ℕ → Result Made Unmade
tried_on w need leave bring =
    choose (same (common w need) 0) (Ok (record { left = common w leave; course = further leave bring w })) (Err unmade.Missing)

-- 1 for a step that leaves all of the word, and so changes no state of the set; of a word and of what is left of it
unfoldable pub still : ℕ → ℕ → ℕ
still w left = keep (fails (below left w)) 1

-- request Eight: 'changed some state of the set, changed none', as a number of idle steps
unfoldable pub idle_by : Change → ℕ
idle_by change.Some = 0
idle_by change.None = 1

-- ---- version 1: the steps of a list, whose actions' words stand in three lists

-- the course after the first i steps
unfoldable pub course_at : List ℕ → List ℕ → List ℕ → ℕ → ℕ → ℕ
course_at leave bring list w zero = w
course_at leave bring list w (suc i) = further (get_or leave (get_or list i 0) 0) (get_or bring (get_or list i 0) 0) (course_at leave bring list w i)

-- what step i needs and some state of the set lacks
unfoldable pub lack_at : List ℕ → List ℕ → List ℕ → List ℕ → ℕ → ℕ → ℕ
lack_at needs leave bring list w i = common (course_at leave bring list w i) (get_or needs (get_or list i 0) 0)

-- how many of the first i steps leave all of the word
unfoldable pub still_at : List ℕ → List ℕ → List ℕ → ℕ → ℕ → ℕ
still_at leave bring list w zero = 0
still_at leave bring list w (suc i) =
    still_at leave bring list w i
    + still (course_at leave bring list w i) (common (course_at leave bring list w i) (get_or leave (get_or list i 0) 0))

-- the lists have the words of each action of the list
pub record Tables (needs leave bring list : List ℕ) : Type 0 where
  pub known : Known (length needs) list
  pub as_leave : length leave ≡ length needs
  pub as_bring : length bring ≡ length needs

-- where the steps of the list lead, up to the first that lacks its precondition
pub record Walks (needs leave bring list : List ℕ) (w : ℕ) (r : Walked) : Type 0 where
  pub inside : r.made ≤ length list
  pub course_is : r.course ≡ course_at leave bring list w r.made
  pub idle_is : r.idle ≡ still_at leave bring list w r.made
  pub before : (k : ℕ) → k < r.made → lack_at needs leave bring list w k ≡ 0
  pub at : r.made < length list → lack_at needs leave bring list w r.made ≡ 0 → ⊥

-- the sets of all n states: those outside the set have what they started with
unfoldable pub sets_of : ℕ → (ℕ → ℕ) → ℕ → ℕ → List ℕ
sets_of n start set w = list_over n (λ s. choose (bit s set) (came w (start s)) (start s))
