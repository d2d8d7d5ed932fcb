-- What an accepted extract of built words gives: the words that the build gives for the file of the states of S only.
-- Assumes nothing.
use mathlib.Core.Path.{◌≡◌, sym, ap, subst, ◌∙◌}
use mathlib.Core.List.{List}
use Prim.Native.Nat.{ℕ, ◌^◌, ◌≤◌, ◌<◌}
use native.Mathlib.Omega.{arith}
use lib.ListN.{length, get_or}
use Rattle.rules.specs.Word.{single}
use Rattle.rules.specs.Domain.{domain}
use Rattle.rules.specs.Layer.{word_count}
use Rattle.rules.specs.Shared.{graph_words}
use Rattle.rules.specs.Extract.{rank, chosen, extract_of}
use Rattle.rules.specs.Agreement.{OneState}
use Rattle.rules.proofs.Tests.{same_not}
use Rattle.rules.proofs.Words.{bit_below, single_has, no_bits}
use Rattle.rules.proofs.Layers.{length_list_over, get_d_list_over}
use Rattle.rules.proofs.Layouts.{Built}
use Rattle.rules.proofs.Leaks.{graph_eq}
use Rattle.rules.proofs.Extracts.{rank_lt, chosen_lt, extract_graph, extract_one}
use Rattle.words.specs.Width.{state_width}
use Rattle.words.specs.Rows.{Inside}
use Rattle.graph.specs.Limits.{max_depth}
use Rattle.graph.specs.Verdict.{accepted}
use Rattle.graph.specs.Format.{actions_of, start_of, domain_of, shape_in, with_count, with_states}
use Rattle.graph.specs.File.{Taken, file_rule}
use Rattle.graph.specs.Checks.{set_rule}
use Rattle.graph.specs.Build.{build_rule}
use Rattle.graph.specs.declared.format.Counts.{Counts}
use Rattle.graph.proofs.Verdicts.{then_accepted}
use Rattle.graph.proofs.Links.{some_states, long_output}
use Rattle.graph.proofs.Ladder.{taken_means, graph_of_lem}
use Rattle.graph.proofs.WithStates.{with_taken, with_built}
use Rattle.extract.specs.Rule.{extract_taken, extract_rule, states_of}
use Rattle.extract.proofs.Moves.{rank_le}

-- no cause holds, for a file with these counts
pub record Admitted (file : List ℕ) (depth set : ℕ) (words : List ℕ) (room : ℕ) (c : Counts) : Type 0 where
  pub taken : file_rule file ≡ accepted c
  pub deep : depth ≤ max_depth
  pub some : set ≡ 0 → ⊥
  pub few : set < 2 ^ c.states
  pub memory : word_count (shape_in c) depth ≤ length words
  pub output : word_count (shape_in c) depth ≤ room

-- ---- the file of the states of S only

-- a set that is not empty has a state
rank_some : (n set : ℕ) → (set ≡ 0 → ⊥) → set < 2 ^ n → 1 ≤ rank set n
rank_some n set h l =
    let f : rank set n ≡ 0 → ⊥ = λ e. h (no_bits l (λ i k t. let g : rank set i < rank set n = rank_lt set t k in omega arith)) in
    omega arith

module _ (file : List ℕ) (c : Counts) (set : ℕ) where
  -- it has as many states as S
  pub states_count : length (states_of file c set) ≡ rank set c.states
  unfolding states_of
  states_count = length_list_over (rank set c.states) (λ j. start_of file c (chosen c.states set j))

  state_is : (j : ℕ) → j < rank set c.states → get_or (states_of file c set) j 0 ≡ start_of file c (chosen c.states set j)
  unfolding states_of
  state_is j h = get_d_list_over (λ j. start_of file c (chosen c.states set j)) h

  states_inside : Taken file c → Inside c.props (states_of file c set)
  states_inside t j h =
      let l : j < rank set c.states = subst (λ (x : ℕ). j < x) states_count h in
      subst (λ (x : ℕ). x < 2 ^ c.props) (sym (state_is j l)) (t.start (chosen c.states set j) (chosen_lt c.states set l))

  module _ (e : file_rule file ≡ accepted c) (some : set ≡ 0 → ⊥) (few : set < 2 ^ c.states) where
    has_some : 1 ≤ length (states_of file c set)
    has_some = omega (arith, states_count, rank_some c.states set some few)

    has_few : length (states_of file c set) ≤ state_width
    has_few = omega (arith, states_count, rank_le set c.states, (taken_means file c e).ranged.states)

    -- it is taken
    pub states_taken : file_rule (with_states file c (states_of file c set)) ≡ accepted (with_count c (rank set c.states))
    states_taken =
        with_taken file c (states_of file c set) e (states_inside (taken_means file c e)) has_some has_few
        ∙ ap (λ (n : ℕ). accepted (with_count c n)) states_count

    -- and its build gives the words of the graph of just these states
    pub states_built : (depth room : ℕ) → depth ≤ max_depth → word_count (shape_in c) depth ≤ room
        → build_rule (with_states file c (states_of file c set)) depth room
        ≡ accepted (graph_words (domain_of file c) (rank set c.states) (λ j. start_of file c (chosen c.states set j)) depth)
    states_built depth room d m =
        with_built file c (states_of file c set) e (states_inside (taken_means file c e)) has_some has_few depth room d m
        ∙ ap accepted (ap (λ (n : ℕ). graph_words (domain_of file c) n (λ s. get_or (states_of file c set) s 0) depth) states_count
        ∙ graph_eq (domain_of file c) depth state_is)

-- ---- extract

module _ (file : List ℕ) (depth set : ℕ) (words : List ℕ) (room : ℕ) (c : Counts) (a : Admitted file depth set words room c) where
  -- a call for which no cause holds is accepted
  pub extract_accepts : extract_rule file depth set words room ≡ accepted (extract_of (shape_in c) c.states depth set words)
  unfolding extract_rule extract_taken
  extract_accepts =
      then_accepted _ _ c a.taken
      ∙ then_accepted _ _ tt (graph_of_lem c depth (set_rule c.states set) (length words)
      (record { deep = a.deep; fine = sym (some_states c.states set (same_not a.some) a.few); fits = a.memory }))
      ∙ then_accepted _ _ tt (sym (long_output (word_count (shape_in c) depth) room a.output))

  -- on memory that begins with built words
  module _ (built : Built (domain_of file c) c.states (start_of file c) depth words) where
    -- the words are those of the graph of just the states of S, in rising number
    pub extracts_graph : extract_rule file depth set words room
        ≡ accepted (graph_words (domain_of file c) (rank set c.states) (λ j. start_of file c (chosen c.states set j)) depth)
    unfolding domain actions_of
    extracts_graph = extract_accepts ∙ ap accepted (extract_graph (domain_of file c) c.states (start_of file c) depth words built set)

    -- 'The graph built for the states of S only is the build's, at the same depth, for the file' of these states, with memory that holds it
    pub extract_is_build : (memory : ℕ) → word_count (shape_in c) depth ≤ memory
        → extract_rule file depth set words room ≡ build_rule (with_states file c (states_of file c set)) depth memory
    extract_is_build memory h = extracts_graph ∙ sym (states_built file c set a.taken a.some a.few depth memory a.deep h)

    -- with one state in S, bit 0 of every word says what the own graph of that state says, and no word has another bit
    pub extracts_one : (s : ℕ) → set ≡ single s
        → (got : List ℕ) × (extract_rule file depth set words room ≡ accepted got) × OneState (domain_of file c) depth (start_of file c s) got
    unfolding domain actions_of
    extracts_one s e = (
      extract_of (shape_in c) c.states depth set words,
      extract_accepts,
      subst (λ (x : ℕ). OneState (domain_of file c) depth (start_of file c s) (extract_of (shape_in c) c.states depth x words)) (sym e)
          (extract_one (domain_of file c) (start_of file c) depth words built (bit_below a.few (single_has s e))),
    )
