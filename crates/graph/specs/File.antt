-- The rule by which a file is taken or turned away: a chain of causes, each a link of its own.
use Rattle.std.specs.Prelude.{ℕ, zero, suc, ◌+◌, ◌*◌, ◌^◌, ◌≤◌, ◌<◌, ◌≡◌, Bool, List, length}
use Rattle.std.proofs.Math.Bool.{So}
use Rattle.rules.specs.Test.{◌and◌, ◌or◌, fails, same, below, choose}
use Rattle.rules.specs.Over.{any_below, first_below}
use Rattle.rules.specs.Domain.{Actions, Sound}
use Rattle.words.specs.Width.{prop_width, state_width}
use Rattle.graph.specs.Limits.{max_actions, max_effects}
use Rattle.graph.specs.Verdict.{Verdict, accepted, refused, and_then}
use Rattle.graph.specs.Format as F
use Rattle.graph.specs.declared.format.Counts.{Counts}

-- how many bytes the head of a version has
unfoldable pub head_of : ℕ → ℕ
head_of version = choose (same version F.effects_version) F.long_head F.head_bytes

-- 1: 'under 8 bytes, or no SAG; place 0', and 'a version 2 file under 9 bytes'
unfoldable pub head_rule : List ℕ → Verdict (Unit {0})
head_rule file =
    choose (below (length file) F.head_bytes or fails (F.letters file) or below (length file) (head_of (F.version file))) (refused 1 0) (accepted tt)

-- 2: 'version; place 3'
unfoldable pub version_rule : List ℕ → Verdict (Unit {0})
version_rule file = choose (same (F.version file) F.plain_version or same (F.version file) F.effects_version) (accepted tt) (refused 2 3)

-- 3: 'count outside its range; place 5, 6 or 7, lowest wrong one', and 'a wrong effect count is 3 with place 8'
unfoldable pub counts_rule : Counts → Verdict (Unit {0})
counts_rule c =
    choose (below c.props 1 or below prop_width c.props) (refused 3 F.props_offset)
    (choose (below max_actions c.actions) (refused 3 F.actions_offset)
    (choose (below c.states 1 or below state_width c.states) (refused 3 F.states_offset)
    (choose (below max_effects c.effects) (refused 3 F.effects_offset)
    (accepted tt))))

-- 4: 'length; place is the right length'
unfoldable pub length_rule : List ℕ → Counts → Verdict (Unit {0})
length_rule file c = choose (same (length file) (F.right_length c)) (accepted tt) (refused 4 (F.right_length c))

-- 5: 'a set with bit P or above; place is the first such set's offset': of so many sets, of which the first begins at `at`
unfoldable pub sets_from : List ℕ → ℕ → ℕ → ℕ → Verdict (Unit {0})
sets_from file props zero at = accepted tt
sets_from file props (suc left) at =
    choose (below (F.set_at file at) (2 ^ props)) (sets_from file props left (at + F.set_bytes)) (refused 5 at)

-- version 2: those of so many effects, from effect e on
unfoldable pub effect_sets : List ℕ → Counts → ℕ → ℕ → Verdict (Unit {0})
effect_sets file c zero e = accepted tt
effect_sets file c (suc left) e = and_then (sets_from file c.props 3 (F.when_at c e)) (λ _. effect_sets file c left (suc e))

-- those before the start states
unfoldable pub action_sets : List ℕ → Counts → Verdict (Unit {0})
action_sets file c =
    choose (F.plain c) (sets_from file c.props (3 * c.actions) F.head_bytes)
    (and_then (sets_from file c.props c.actions F.long_head) (λ _. effect_sets file c c.effects 0))

unfoldable pub sets_rule : List ℕ → Counts → Verdict (Unit {0})
sets_rule file c = and_then (action_sets file c) (λ _. sets_from file c.props c.states (F.states_at c))

-- request Three: the first effect with 'an action number not below the action count', and the number of effects where there is none
unfoldable pub first_stray : Actions → ℕ
first_stray A = first_below A.effects (λ e. fails (below (A.owner e) A.count))

-- 16: 'an effect's action number not below the action count, place its offset'
unfoldable pub owners_rule : List ℕ → Counts → Verdict (Unit {0})
owners_rule file c =
    let e = first_stray (F.actions_of file c) in
    choose (below e c.effects) (refused 16 (F.effect_at c e)) (accepted tt)

-- request Two: 'Two actions with the same three sets': in version 1 what an action adds and deletes is that of the effect of its number
unfoldable pub equal_actions : Actions → ℕ → ℕ → Bool
equal_actions A b a = same (A.pre b) (A.pre a) and same (A.add b) (A.add a) and same (A.del b) (A.del a)

-- an action that equals an earlier one
unfoldable pub equals_earlier : Actions → ℕ → Bool
equals_earlier A a = any_below a (λ b. equal_actions A b a)

-- 'the later of the first such pair, ordered by the later one', and the number of actions where there is none
unfoldable pub first_equal : Actions → ℕ
first_equal A = first_below A.count (equals_earlier A)

-- 15: 'place the offset of the later of the first such pair', 'looked for in version 1 only'
unfoldable pub equal_rule : List ℕ → Counts → Verdict (Unit {0})
equal_rule file c =
    let a = first_equal (F.actions_of file c) in
    choose (F.plain c and below a c.actions) (refused 15 (F.pre_at c a)) (accepted tt)

-- 16 ('after 5, before 15'), then 15 ('before 6')
unfoldable pub actions_rule : List ℕ → Counts → Verdict (Unit {0})
actions_rule file c = and_then (owners_rule file c) (λ _. equal_rule file c)

-- 'The file's writer': causes 1 to 5, in order, and then these
unfoldable pub file_rule : List ℕ → Verdict Counts
file_rule file =
    and_then (head_rule file) (λ _.
    and_then (version_rule file) (λ _.
    and_then (counts_rule (F.counts_in file)) (λ _.
    and_then (length_rule file (F.counts_in file)) (λ _.
    and_then (sets_rule file (F.counts_in file)) (λ _.
    and_then (actions_rule file (F.counts_in file)) (λ _.
    accepted (F.counts_in file)))))))

-- counts that are in their ranges
pub record Ranged (c : Counts) : Type 0 where
  pub some_props : 1 ≤ c.props
  pub props : c.props ≤ prop_width
  pub actions : c.actions ≤ max_actions
  pub effects : c.effects ≤ max_effects
  pub some_states : 1 ≤ c.states
  pub states : c.states ≤ state_width
  pub own : So (F.plain c) → c.effects ≡ c.actions

-- what is known of a file that was taken, with its counts
pub record Taken (file : List ℕ) (c : Counts) : Type 0 where
  pub ranged : Ranged c
  pub long : length file ≡ F.right_length c
  pub sound : Sound (F.actions_of file c)
  pub add : (e : ℕ) → e < c.effects → (F.actions_of file c).add e < 2 ^ c.props
  pub del : (e : ℕ) → e < c.effects → (F.actions_of file c).del e < 2 ^ c.props
  pub start : (s : ℕ) → s < c.states → F.start_of file c s < 2 ^ c.props
  pub counts : c ≡ F.counts_in file
