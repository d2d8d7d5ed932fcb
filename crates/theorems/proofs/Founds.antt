-- What is known of found memory and of an asked set: it is built, and no cause of the level call holds.
-- Assumes nothing.
use mathlib.Core.Path.{◌≡◌, sym, ap, subst, ◌∙◌}
use mathlib.Core.Bool.{So}
use mathlib.Core.List.{List, ◌++◌}
use Prim.Native.Nat.{ℕ, ◌≤◌, ◌<◌}
use native.Mathlib.Omega.{arith}
use lib.Pow.{pow_pos}
use lib.ListN.{length, drop, length-append}
use Rattle.rules.specs.Word.{bit, single}
use Rattle.rules.specs.Domain.{shape_of, domain}
use Rattle.rules.specs.Layer.{word_count}
use Rattle.rules.specs.Level.{Level, level_of}
use Rattle.rules.proofs.Tests.{same_not}
use Rattle.rules.proofs.Words.{bit_below, single_lt}
use Rattle.rules.proofs.Layouts.{Built, built_append}
use Rattle.graph.specs.Limits.{max_depth}
use Rattle.graph.specs.Verdict.{Verdict, accepted, laid}
use Rattle.graph.specs.Format.{actions_of, start_of, domain_of, shape_in}
use Rattle.graph.specs.File.{Taken, file_rule}
use Rattle.graph.specs.Checks.{Passed, asked_rule}
use Rattle.graph.specs.Build.{graph_of, build_rule}
use Rattle.graph.specs.declared.format.Counts.{Counts}
use Rattle.graph.proofs.Links.{some_states, fit_goal}
use Rattle.graph.proofs.Ladder.{taken_means, asked_of, graph_of_lem}
use Rattle.graph.proofs.Verdicts.{then_accepted, accepted_is}
use Rattle.graph.proofs.Graphs.{Accepted, build_means, graph_long}
use Rattle.level.specs.Rule.{level_taken, level_rule}
use Rattle.theorems.specs.Setting.{Found, StatesOf, GoalOf}

module _ {file : List ℕ} {c : Counts} {depth : ℕ} {found : List ℕ} (f : Found file c depth found) where
  pub file_taken : Taken file c
  file_taken = taken_means file c f.taken

  made : Accepted file depth f.memory f.words
  made = build_means file depth f.memory f.words f.build

  pub deep : depth ≤ max_depth
  deep = made.passed.deep

  -- the words that the build wrote are those of the file's graph
  pub are : f.words ≡ graph_of file c depth
  are = subst (λ (x : Counts). f.words ≡ graph_of file x depth) (accepted_is _ _ (sym made.file_rule_lem ∙ f.taken)) made.are

  pub count : length f.words ≡ word_count (shape_in c) depth
  count = ap (λ (x : List ℕ). length x) are ∙ graph_long file c (start_of file c) depth

  found_is : found ≡ graph_of file c depth ++ f.rest
  found_is = f.begins ∙ ap (λ (x : List ℕ). x ++ f.rest) are

  pub built : Built (domain_of file c) c.states (start_of file c) depth found
  built =
      subst (Built (domain_of file c) c.states (start_of file c) depth) (sym found_is)
      (built_append (domain_of file c) c.states (start_of file c) depth f.rest)

  pub fits : word_count (shape_in c) depth ≤ length found
  fits = omega (
    arith,
    ap (λ (x : List ℕ). length x) found_is,
    length-append (graph_of file c depth) f.rest,
    graph_long file c (start_of file c) depth,
  )

  -- no cause of a call with this set and goal holds
  pub asked_passes : (set goal : ℕ) → StatesOf c set → GoalOf c goal → Passed c depth (asked_rule c set goal) (length found)
  asked_passes set goal s g = record {
    deep = deep;
    fine = asked_of c set goal (sym (some_states c.states set (same_not s.some) s.few)) (sym (fit_goal c.props goal g));
    fits = fits;
  }

  pub level_answer : (set goal : ℕ) → StatesOf c set → GoalOf c goal
      → level_rule file depth set goal found ≡ accepted (level_of (shape_of (domain_of file c)) depth set goal found)
  unfolding level_rule level_taken domain actions_of
  level_answer set goal s g =
      then_accepted (file_rule file) _ c f.taken ∙ then_accepted _ _ tt (graph_of_lem c depth _ (length found) (asked_passes set goal s g))

  pub level_says_lem : (set goal : ℕ) → StatesOf c set → GoalOf c goal → (a : Level) → level_rule file depth set goal found ≡ accepted a
      → level_of (shape_of (domain_of file c)) depth set goal found ≡ a
  level_says_lem set goal s g a e = accepted_is _ _ (sym (level_answer set goal s g) ∙ e)

-- one state is a set of states
pub one_state : (c : Counts) (s : ℕ) → s < c.states → StatesOf c (single s)
one_state c s h = record { some = λ e. omega (arith, pow_pos s); few = single_lt h }

-- a state of S is one of the file
pub is_state : {c : Counts} {set : ℕ} → StatesOf c set → (s : ℕ) → So (bit s set) → s < c.states
is_state {c} {set} h s b = bit_below h.few b

-- an accepted build leaves its words in front of what was there
pub build_leaves : (file : List ℕ) (c : Counts) (depth : ℕ) (memory words : List ℕ) → file_rule file ≡ accepted c
    → build_rule file depth (length memory) ≡ accepted words → Found file c depth (laid (build_rule file depth (length memory)) memory)
unfolding laid
build_leaves file c depth memory words t e = record {
  taken = t;
  memory = length memory;
  words = words;
  build = e;
  rest = drop (length words) memory;
  begins = ap (λ (v : Verdict (List ℕ)). laid v memory) e;
}
