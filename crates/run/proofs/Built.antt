-- What an accepted run means, so that the laws about runs apply to what the call answers.
-- Assumes nothing.
use Prim.Native.Nat.{ℕ, ◌^◌, ◌≤◌, ◌<◌}
use mathlib.Core.Path.{◌≡◌, refl}
use mathlib.Core.List.{List, [], ◌∷◌}
use lib.ListN.{length}
use Rattle.rules.specs.Lists.{list_over}
use Rattle.rules.specs.Run.{Ran, ended, lacks, run_from, run_of, idle_from, idle_of}
use Rattle.graph.specs.Verdict.{accepted}
use Rattle.graph.specs.Format.{actions_of, start_of}
use Rattle.graph.specs.File.{Taken, file_rule}
use Rattle.graph.specs.Checks.{set_rule, output_rule}
use Rattle.graph.specs.declared.format.Counts.{Counts}
use Rattle.run.specs.Run.{max_steps, sequence_rule, ran_verdict, end_rule, run_taken, run_rule, idle_steps}
use Rattle.run.specs.Course.{Known}
use Rattle.graph.proofs.Verdicts.{passed_then}
use Rattle.graph.proofs.Ladder.{taken_means, set_means, output_means}
use Rattle.run.proofs.Sequences.{sequence_means}

ran_means : (r : Ran) (ends : List ℕ) → ran_verdict r ≡ accepted ends → r ≡ ended ends
unfolding ran_verdict
ran_means (ended xs) ends e = cc
ran_means (lacks i) ends e = cc

-- a list without a step ends where it starts
pub no_steps : (file : List ℕ) (c : Counts) (set : ℕ) (list : List ℕ) → length list ≡ 0
    → end_rule file c set list ≡ accepted (list_over c.states (start_of file c))
unfolding end_rule ran_verdict run_of run_from
no_steps file c set [] e = refl
no_steps file c set (a ∷ list) e = cc

-- and has no idle step
pub no_idle_steps : (file : List ℕ) (c : Counts) (set : ℕ) (list : List ℕ) → length list ≡ 0 → 0 ≡ idle_steps file c set list
unfolding idle_of idle_from
no_idle_steps file c set [] e = refl
no_idle_steps file c set (a ∷ list) e = cc

-- what is known of a run that is accepted, with the sets it writes
pub record Accepted (file : List ℕ) (set : ℕ) (list : List ℕ) (room : ℕ) (ends : List ℕ) : Type 0 where
  pub counts : Counts
  pub rule : file_rule file ≡ accepted counts
  pub taken : Taken file counts
  pub some : set ≡ 0 → ⊥
  pub small : set < 2 ^ counts.states
  pub fits : counts.states ≤ room
  pub short : length list ≤ max_steps
  pub known : Known counts.actions list
  pub ran : run_of (actions_of file counts) counts.states (start_of file counts) set list ≡ ended ends

pub run_accepted : (file : List ℕ) (set : ℕ) (list : List ℕ) (room : ℕ) (ends : List ℕ) → run_rule file set list room ≡ accepted ends
    → Accepted file set list room ends
unfolding run_rule run_taken end_rule
run_accepted file set list room ends e =
    let (c, taken, e1) = passed_then (file_rule file) _ ends e in
    let (_, set_passed, e2) = passed_then (set_rule c.states set) _ ends e1 in
    let (_, room_passed, e3) = passed_then (output_rule c.states room) _ ends e2 in
    let (_, list_passed, e4) = passed_then (sequence_rule c.actions list) _ ends e3 in
    let (some, small) = set_means c.states set set_passed in
    let (short, known) = sequence_means c.actions list list_passed in
    record {
      counts = c;
      rule = taken;
      taken = taken_means file c taken;
      some = some;
      small = small;
      fits = output_means c.states room room_passed;
      short = short;
      known = known;
      ran = ran_means _ ends e4;
    }
