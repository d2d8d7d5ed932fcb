-- The rule of a run: what turns it away, in the order of the causes, and what it writes.
use Rattle.std.specs.Prelude.{ℕ, ◌≡◌, List, Result, length, get_or}
use Rattle.rules.specs.Test.{fails, below, choose}
use Rattle.rules.specs.Over.{first_below}
use Rattle.rules.specs.Run.{Ran, ended, lacks, run_of, idle_of}
use Rattle.graph.specs.Verdict.{Verdict, accepted, refused, verdict_by, and_then, laid}
use Rattle.graph.specs.Format.{actions_of, start_of, counts_in}
use Rattle.graph.specs.File.{file_rule}
use Rattle.graph.specs.Checks.{set_rule, output_rule}
use Rattle.graph.specs.declared.format.Counts.{Counts}
use Rattle.graph.specs.declared.refusal.Refusal.{Refusal}
use Rattle.run.specs.declared.Ran.{Ran as Answer}

-- 'sequence over 65,535'
abbrev pub max_steps : ℕ
max_steps = 65535

-- the index of the first number of the list that is A or above, and the list's length where there is none
unfoldable pub first_unknown : ℕ → List ℕ → ℕ
first_unknown actions list = first_below (length list) (λ i. fails (below (get_or list i 0) actions))

-- 11: 'an action number of A or above (its index), seen before any step'
unfoldable pub numbers_rule : ℕ → List ℕ → Verdict (Unit {0})
numbers_rule actions list =
    choose (below (first_unknown actions list) (length list)) (refused 11 (first_unknown actions list)) (accepted tt)

-- 11: 'sequence over 65,535 (place 65,535), else' the former
unfoldable pub sequence_rule : ℕ → List ℕ → Verdict (Unit {0})
sequence_rule actions list = choose (below max_steps (length list)) (refused 11 max_steps) (numbers_rule actions list)

-- 12: 'a step lacks its precondition (step index)'
unfoldable pub ran_verdict : Ran → Verdict (List ℕ)
ran_verdict (ended ends) = accepted ends
ran_verdict (lacks i) = refused 12 i

-- 'N 4-byte sets are written': the end sets of all states, once every step had its precondition
unfoldable pub end_rule : List ℕ → Counts → ℕ → List ℕ → Verdict (List ℕ)
end_rule file c set list = ran_verdict (run_of (actions_of file c) c.states (start_of file c) set list)

-- of a file that was taken, with room for so many sets: 7, 10 ('run N sets'), 11, and the end
unfoldable pub run_taken : List ℕ → Counts → ℕ → List ℕ → ℕ → Verdict (List ℕ)
run_taken file c set list room =
    and_then (set_rule c.states set) (λ _.
    and_then (output_rule c.states room) (λ _.
    and_then (sequence_rule c.actions list) (λ _.
    end_rule file c set list)))

-- 'a run takes the file, S, its list and its output only': the file's causes, then the former
unfoldable pub run_rule : List ℕ → ℕ → List ℕ → ℕ → Verdict (List ℕ)
run_rule file set list room = and_then (file_rule file) (λ c. run_taken file c set list room)

-- what an accepted run answers: 'a run the number of sets written', and request Eight: 'A run reports the number of idle ones with the end states'
pub record Reported : Type 0 where
  pub sets : ℕ
  pub idle : ℕ

-- of a run that gives these sets and has so many idle steps; 'A refused run reports no number'
unfoldable pub reported : ℕ → Verdict (List ℕ) → Verdict Reported
reported idle (accepted ends) = accepted (record { sets = length ends; idle = idle })
reported idle (refused number place) = refused number place

-- the idle steps of a list over a file that was taken
abbrev pub idle_steps : List ℕ → Counts → ℕ → List ℕ → ℕ
idle_steps file c set list = idle_of (actions_of file c) c.states (start_of file c) set list

unfoldable pub report_rule : List ℕ → ℕ → List ℕ → ℕ → Verdict Reported
report_rule file set list room = reported (idle_steps file (counts_in file) set list) (run_rule file set list room)

-- what a run's answer says
abbrev pub run_verdict : Result Answer Refusal → Verdict Reported
run_verdict r = verdict_by (λ ran. record { sets = ran.sets; idle = ran.idle }) r

-- what a run answers and writes that has passed its checks
abbrev pub Ends : List ℕ → Counts → ℕ → List ℕ → Result Answer Refusal → List ℕ → List ℕ → Type 0
Ends file c set list r out₀ out =
    (run_verdict r ≡ reported (idle_steps file c set list) (end_rule file c set list)) × (out ≡ laid (end_rule file c set list) out₀)
