-- What a call answers: it is accepted, with what it gives, or turned away ('Turned away, by cause').
use Rattle.std.specs.Prelude.{ℕ, List, Result, Ok, Err, ◌++◌, length, drop}
use Rattle.graph.specs.Limits.{max_depth}
use Rattle.graph.specs.declared.refusal.Refusal.{Refusal}
use Rattle.graph.specs.declared.refusal.Refusal.TheVariants as cause

-- 'Each answer holds the number and a place.'
pub data Verdict (X : Type 0) : Type 0 where
  accepted : X → Verdict X
  refused : ℕ → ℕ → Verdict X

-- the paper's number of each cause
abbrev pub number_of : Refusal → ℕ
number_of cause.Head = 1
number_of cause.Version = 2
number_of (cause.Count i) = 3
number_of (cause.Length i) = 4
number_of (cause.PropSet i) = 5
number_of cause.Depth = 6
number_of cause.StateSet = 7
number_of cause.Goal = 8
number_of (cause.Memory i) = 9
number_of (cause.Output i) = 10
number_of (cause.Sequence i) = 11
number_of (cause.Precondition i) = 12
number_of (cause.NoLevel i) = 13
number_of (cause.Uncovered i) = 14
number_of (cause.EqualAction i) = 15
number_of (cause.EffectAction i) = 16
number_of (cause.PossibleSet i) = 17
number_of cause.Share = 18

-- and its place
abbrev pub place_of : Refusal → ℕ
place_of cause.Head = 0
place_of cause.Version = 3
place_of (cause.Count i) = i
place_of (cause.Length i) = i
place_of (cause.PropSet i) = i
place_of cause.Depth = max_depth
place_of cause.StateSet = 0
place_of cause.Goal = 0
place_of (cause.Memory i) = i
place_of (cause.Output i) = i
place_of (cause.Sequence i) = i
place_of (cause.Precondition i) = i
place_of (cause.NoLevel i) = i
place_of (cause.Uncovered i) = i
place_of (cause.EqualAction i) = i
place_of (cause.EffectAction i) = i
place_of (cause.PossibleSet i) = i
place_of cause.Share = 0

-- a call turned away for this cause
abbrev pub turned_away : {X : Type 0} → Refusal → Verdict X
turned_away why = refused (number_of why) (place_of why)

-- what a function's answer says: 'each answer holds the number and a place', or what the call gives
abbrev pub verdict_by : {X Y : Type 0} → (X → Y) → Result X Refusal → Verdict Y
verdict_by says (Ok x) = accepted (says x)
verdict_by says (Err why) = turned_away why

abbrev pub verdict : {X : Type 0} → Result X Refusal → Verdict X
verdict r = verdict_by (λ x. x) r

-- 'Checks go in rising number .. the first cause that holds is answered': the next check, once this one is passed
unfoldable pub and_then : {X Y : Type 0} → Verdict X → (X → Verdict Y) → Verdict Y
and_then (accepted x) next = next x
and_then (refused number place) next = refused number place

-- the memory after a call that gives these words: they stand in front, 'Memory past what an accepted call writes stays'; turned away, nothing changes
unfoldable pub laid : Verdict (List ℕ) → List ℕ → List ℕ
laid (accepted words) memory = words ++ drop (length words) memory
laid (refused number place) memory = memory

-- 'Accepted, a build or extract answers the number of words written, a run the number of sets written.'
unfoldable pub written : Verdict (List ℕ) → Verdict ℕ
written (accepted words) = accepted (length words)
written (refused number place) = refused number place
