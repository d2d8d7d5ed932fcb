-- No list of actions that ends with the goal is shorter than what the level call answers.
-- Assumes nothing.
use mathlib.Core.Path.{◌≡◌, sym, ap, subst, ◌∙◌}
use mathlib.Core.Bool.{So}
use mathlib.Core.List.{List}
use Prim.Native.Nat.{ℕ, ◌≤◌, ◌<◌}
use native.Mathlib.Omega.{arith}
use lib.ListN.{length, get_or}
use Rattle.rules.specs.Word.{within}
use Rattle.rules.specs.Level.{level, never, not_by_depth}
use Rattle.rules.specs.Run.{ended, run_of}
use Rattle.rules.proofs.Tests.{choose_failed, is_fails, below_not, below_of, same_not}
use Rattle.rules.proofs.Claims as claims
use Rattle.graph.specs.Verdict.{accepted}
use Rattle.graph.specs.Format.{actions_of, start_of}
use Rattle.graph.specs.File.{file_rule}
use Rattle.graph.specs.declared.format.Counts.{Counts}
use Rattle.graph.proofs.Links.{some_states, long_output}
use Rattle.graph.proofs.Verdicts.{then_accepted, accepted_is}
use Rattle.level.specs.Rule.{level_rule}
use Rattle.run.specs.Run.{max_steps, sequence_rule, ran_verdict, end_rule, run_taken, run_rule}
use Rattle.run.proofs.Sequences.{none_unknown}
use Rattle.run.proofs.Built.{Accepted, run_accepted}
use Rattle.theorems.specs.Setting.{Found, StatesOf, GoalOf, Each, EndsWith, Carries, Reaches}
use Rattle.theorems.proofs.Founds.{built, level_says_lem}
use Rattle.theorems.proofs.Carried.{carried_runs, runs_carried}

-- a list that reaches the goal runs, and ends with the goal
abbrev Runs : List ℕ → Counts → ℕ → ℕ → List ℕ → Type 0
Runs file c set goal list =
    (ends : List ℕ) × (run_of (actions_of file c) c.states (start_of file c) set list ≡ ended ends) × EndsWith set goal ends

reaches_runs : {file : List ℕ} {c : Counts} {set goal : ℕ} → StatesOf c set → {list : List ℕ} → Reaches file c set goal list → Runs file c set goal list
reaches_runs {file} {c} {set} {goal} some {list} r =
    let (ends, e, same) = carried_runs (actions_of file c) c.states some.few (start_of file c) list r.ends r.carried in
    (ends, e, λ s b. subst (λ (x : ℕ). So (within goal x)) (same s b) (r.goals s b))

module _ {file : List ℕ} {c : Counts} {depth : ℕ} {found : List ℕ} (f : Found file c depth found) {set goal : ℕ} (some : StatesOf c set) (over : GoalOf c goal)
    {list : List ℕ} (r : Reaches file c set goal list) where
  runs : Runs file c set goal list
  runs = reaches_runs some r

  pub level_bound : (t : ℕ) → level_rule file depth set goal found ≡ accepted (level t) → t ≤ length list
  level_bound t e =
      claims.level_bound (actions_of file c) (start_of file c) depth found (built f) goal some.few list runs.1
      (λ s h b. runs.2 s b) (level_says_lem f set goal some over _ e)

  pub never_bound : level_rule file depth set goal found ≡ accepted never → ⊥
  never_bound e =
      claims.never_bound (actions_of file c) (start_of file c) depth found (built f) goal some.few list runs.1
      (λ s h b. runs.2 s b) (level_says_lem f set goal some over _ e)

  pub depth_bound : level_rule file depth set goal found ≡ accepted not_by_depth → depth < length list
  depth_bound e =
      claims.depth_bound (actions_of file c) (start_of file c) depth found (built f) goal some.few list runs.1
      (λ s h b. runs.2 s b) (level_says_lem f set goal some over _ e)

-- a list that the run call accepts is carried out to the end sets that it writes
module _ (file : List ℕ) {c : Counts} (taken : file_rule file ≡ accepted c) (set : ℕ) (list : List ℕ) {ends : List ℕ} (room : ℕ)
    (e : run_rule file set list room ≡ accepted ends) where
  abbrev passed : Accepted file set list room ends
  passed = run_accepted file set list room ends e

  same_counts : passed.counts ≡ c
  same_counts = accepted_is _ _ (sym passed.rule ∙ taken)

  pub run_carries : Each set (λ s. Carries (actions_of file c) list (start_of file c s) (get_or ends s 0))
  run_carries = subst (λ (x : Counts). Each set (λ s. Carries (actions_of file x) list (start_of file x s) (get_or ends s 0))) same_counts
      (runs_carried (actions_of file passed.counts) passed.counts.states passed.small (start_of file passed.counts) list passed.ran)

  -- and reaches the goal, if they have it
  pub run_reaches : {goal : ℕ} → EndsWith set goal ends → Reaches file c set goal list
  run_reaches goals = record {
    known = subst (λ (x : Counts). (i : ℕ) → i < length list → get_or list i 0 < x.actions) same_counts passed.known;
    ends = ends;
    carried = run_carries;
    goals = goals;
  }

-- a list that runs, of the file's actions and short enough, is accepted
module _ (file : List ℕ) {c : Counts} (taken : file_rule file ≡ accepted c) {set : ℕ} (some : StatesOf c set) (list : List ℕ)
    (known : (i : ℕ) → i < length list → get_or list i 0 < c.actions) (room : ℕ) (enough : c.states ≤ room) (short : length list ≤ max_steps) where
  numbers_pass : sequence_rule c.actions list ≡ accepted tt
  unfolding sequence_rule
  numbers_pass =
      choose_failed _ _ (is_fails (below_not short))
      ∙ sym (none_unknown c.actions list (length list) (omega arith) known (omega arith))

  pub runs_accepted : {ends : List ℕ} → run_of (actions_of file c) c.states (start_of file c) set list ≡ ended ends
      → run_rule file set list room ≡ accepted ends
  unfolding run_rule run_taken end_rule ran_verdict
  runs_accepted ran =
      then_accepted (file_rule file) _ c taken
      ∙ then_accepted _ _ tt (sym (some_states c.states set (same_not some.some) some.few))
      ∙ then_accepted _ _ tt (sym (long_output c.states room enough))
      ∙ then_accepted _ _ tt numbers_pass
      ∙ ap ran_verdict ran

-- so the run call accepts each list that reaches the goal, if it is short enough
pub run_accepts : {file : List ℕ} {c : Counts} → file_rule file ≡ accepted c → {set goal : ℕ} → StatesOf c set → {list : List ℕ}
    → Reaches file c set goal list → (room : ℕ) → c.states ≤ room → length list ≤ max_steps
    → (ends : List ℕ) × (run_rule file set list room ≡ accepted ends) × EndsWith set goal ends
run_accepts {file} taken some {list} r room enough short =
    let (ends, ran, goals) = reaches_runs some r in (ends, runs_accepted file taken some list r.known room enough short ran, goals)
