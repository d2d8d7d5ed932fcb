-- What each link of the chain of checks comes to, given its tests.
-- Assumes nothing.
use Prim.Native.Nat.{ℕ, ◌^◌, ◌≤◌, ◌<◌}
use mathlib.Core.Path.{◌≡◌}
use mathlib.Core.Bool.{true, false}
use mathlib.Core.List.{List}
use lib.ListN.{length, get_or}
use Rattle.rules.specs.Test.{◌and◌, ◌or◌, fails, same, choose}
use Rattle.rules.proofs.Tests.{same_of, same_not, below_of, below_not}
use Rattle.words.specs.Width.{prop_width, state_width}
use Rattle.graph.specs.Limits.{max_actions, max_effects, max_depth}
use Rattle.graph.specs.Verdict.{accepted, refused}
use Rattle.graph.specs.Format.{head_bytes, plain_version, effects_version, letters, version, right_length}
use Rattle.graph.specs.File.{head_of, head_rule, version_rule, counts_rule, length_rule}
use Rattle.graph.specs.Checks.{depth_rule, set_rule, goal_rule, memory_rule, output_rule}
use Rattle.graph.specs.declared.format.Counts.{Counts}

-- ---- the letters, one by one

module _ (file : List ℕ) where
  pub first_not : (get_or file 0 0 ≡ 83 → ⊥) → false ≡ letters file
  unfolding letters ◌and◌
  first_not h = simp (same_not h)

  pub second_not : get_or file 0 0 ≡ 83 → (get_or file 1 0 ≡ 65 → ⊥) → false ≡ letters file
  unfolding letters ◌and◌
  second_not h k = simp (same_of h, same_not k)

  pub third_not : get_or file 0 0 ≡ 83 → get_or file 1 0 ≡ 65 → (get_or file 2 0 ≡ 71 → ⊥) → false ≡ letters file
  unfolding letters ◌and◌
  third_not h k i = simp (same_of h, same_of k, same_not i)

  pub all_letters : get_or file 0 0 ≡ 83 → get_or file 1 0 ≡ 65 → get_or file 2 0 ≡ 71 → true ≡ letters file
  unfolding letters ◌and◌
  all_letters h k i = simp (same_of h, same_of k, same_of i)

-- ---- causes 1 to 4

module _ (file : List ℕ) where
  pub short : length file < head_bytes → refused 1 0 ≡ head_rule file
  unfolding head_rule choose ◌or◌
  short h = simp (below_of h)

  pub no_letters : head_bytes ≤ length file → letters file ≡ false → refused 1 0 ≡ head_rule file
  unfolding head_rule choose fails ◌or◌
  no_letters h s = simp (below_not h, s)

  pub short_head : head_bytes ≤ length file → letters file ≡ true → length file < head_of (version file) → refused 1 0 ≡ head_rule file
  unfolding head_rule choose fails ◌or◌
  short_head h s l = simp (below_not h, s, below_of l)

  pub headed : head_bytes ≤ length file → letters file ≡ true → head_of (version file) ≤ length file → accepted tt ≡ head_rule file
  unfolding head_rule choose fails ◌or◌
  headed h s l = simp (below_not h, s, below_not l)

  pub version_1 : version file ≡ plain_version → accepted tt ≡ version_rule file
  unfolding version_rule choose ◌or◌
  version_1 v = simp (same_of v)

  pub version_2 : (version file ≡ plain_version → ⊥) → version file ≡ effects_version → accepted tt ≡ version_rule file
  unfolding version_rule choose ◌or◌
  version_2 n v = simp (same_not n, same_of v)

  pub other_version : (version file ≡ plain_version → ⊥) → (version file ≡ effects_version → ⊥) → refused 2 3 ≡ version_rule file
  unfolding version_rule choose ◌or◌
  other_version n v = simp (same_not n, same_not v)

  module _ (c : Counts) where
    pub wrong_length : (length file ≡ right_length c → ⊥) → refused 4 (right_length c) ≡ length_rule file c
    unfolding length_rule choose
    wrong_length h = simp (same_not h)

    pub right_length_lem : length file ≡ right_length c → accepted tt ≡ length_rule file c
    unfolding length_rule choose
    right_length_lem h = simp (same_of h)

module _ (c : Counts) where
  pub few_props : c.props < 1 → refused 3 5 ≡ counts_rule c
  unfolding counts_rule choose ◌or◌
  few_props h = simp (below_of h)

  pub many_props : 1 ≤ c.props → prop_width < c.props → refused 3 5 ≡ counts_rule c
  unfolding counts_rule choose ◌or◌
  many_props h k = simp (below_not h, below_of k)

  module _ (h : 1 ≤ c.props) (k : c.props ≤ prop_width) where
    pub many_actions : max_actions < c.actions → refused 3 6 ≡ counts_rule c
    unfolding counts_rule choose ◌or◌
    many_actions i = simp (below_not h, below_not k, below_of i)

    module _ (i : c.actions ≤ max_actions) where
      pub few_states : c.states < 1 → refused 3 7 ≡ counts_rule c
      unfolding counts_rule choose ◌or◌
      few_states j =
          simp (below_not h, below_not k, below_not i, below_of j)

      pub many_states : 1 ≤ c.states → state_width < c.states → refused 3 7 ≡ counts_rule c
      unfolding counts_rule choose ◌or◌
      many_states j m = simp (
        below_not h,
        below_not k,
        below_not i,
        below_not j,
        below_of m,
      )

      pub many_effects : 1 ≤ c.states → c.states ≤ state_width → max_effects < c.effects → refused 3 8 ≡ counts_rule c
      unfolding counts_rule choose ◌or◌
      many_effects j m f = simp (
        below_not h,
        below_not k,
        below_not i,
        below_not j,
        below_not m,
        below_of f,
      )

      pub counted : 1 ≤ c.states → c.states ≤ state_width → c.effects ≤ max_effects → accepted tt ≡ counts_rule c
      unfolding counts_rule choose ◌or◌
      counted j m f = simp (
        below_not h,
        below_not k,
        below_not i,
        below_not j,
        below_not m,
        below_not f,
      )

-- ---- causes 6 to 10

pub too_deep : (depth : ℕ) → max_depth < depth → refused 6 max_depth ≡ depth_rule depth
unfolding depth_rule choose
too_deep depth h = simp (below_of h)

pub deep_enough : (depth : ℕ) → depth ≤ max_depth → accepted tt ≡ depth_rule depth
unfolding depth_rule choose
deep_enough depth h = simp (below_not h)

pub no_states : (n set : ℕ) → same set 0 ≡ true → refused 7 0 ≡ set_rule n set
unfolding set_rule choose ◌or◌
no_states n set e = simp e

pub wide_states : (n set : ℕ) → same set 0 ≡ false → 2 ^ n ≤ set → refused 7 0 ≡ set_rule n set
unfolding set_rule choose ◌or◌ fails
wide_states n set e h = simp (e, below_not h)

pub some_states : (n set : ℕ) → same set 0 ≡ false → set < 2 ^ n → accepted tt ≡ set_rule n set
unfolding set_rule choose ◌or◌ fails
some_states n set e h = simp (e, below_of h)

pub wide_goal : (n goal : ℕ) → 2 ^ n ≤ goal → refused 8 0 ≡ goal_rule n goal
unfolding goal_rule choose
wide_goal n goal h = simp (below_not h)

pub fit_goal : (n goal : ℕ) → goal < 2 ^ n → accepted tt ≡ goal_rule n goal
unfolding goal_rule choose
fit_goal n goal h = simp (below_of h)

module _ (wanted have : ℕ) where
  pub short_memory : have < wanted → refused 9 wanted ≡ memory_rule wanted have
  unfolding memory_rule choose
  short_memory h = simp (below_of h)

  pub long_memory : wanted ≤ have → accepted tt ≡ memory_rule wanted have
  unfolding memory_rule choose
  long_memory h = simp (below_not h)

  pub short_output : have < wanted → refused 10 wanted ≡ output_rule wanted have
  unfolding output_rule choose
  short_output h = simp (below_of h)

  pub long_output : wanted ≤ have → accepted tt ≡ output_rule wanted have
  unfolding output_rule choose
  long_output h = simp (below_not h)
