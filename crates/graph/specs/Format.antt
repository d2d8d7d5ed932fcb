-- The problem file: what stands where, how wide it is, and how long the file is ('The problem file'). No other module knows an offset.
use Rattle.std.specs.Prelude.{ℕ, ◌+◌, ◌-◌, ◌*◌, ◌/◌, ◌%◌, Bool, List, [], ◌∷◌, ◌++◌, length, get_or, take, drop}
use Rattle.rules.specs.Test.{◌and◌, same, choose}
use Rattle.rules.specs.Lists.{run_over}
use Rattle.rules.specs.Domain.{Actions, Domain, domain}
use Rattle.rules.specs.declared.Shape.{Shape}
use Rattle.graph.specs.declared.format.Counts.{Counts}

-- 'A set of propositions is 4 bytes'
abbrev pub set_bytes : ℕ
set_bytes = 4

-- 'little-endian': the set that begins at an offset
unfoldable pub set_at : List ℕ → ℕ → ℕ
set_at file at = get_or file at 0 + 256 * get_or file (at + 1) 0 + 65536 * get_or file (at + 2) 0 + 16777216 * get_or file (at + 3) 0

-- and the bytes of a set
unfoldable pub bytes_of : ℕ → List ℕ
bytes_of set = set % 256 ∷ set / 256 % 256 ∷ set / 65536 % 256 ∷ set / 16777216 % 256 ∷ []

-- 'Offset 0: the letters SAG.'
unfoldable pub letters : List ℕ → Bool
letters file = same (get_or file 0 0) 83 and same (get_or file 1 0) 65 and same (get_or file 2 0) 71

-- 'Offset 3: version, 2 bytes'
unfoldable pub version : List ℕ → ℕ
version file = get_or file 3 0 + 256 * get_or file 4 0

-- 'Offsets 5, 6, 7, a byte each: P propositions .. A actions .. N start states'
abbrev pub props_offset : ℕ
props_offset = 5

abbrev pub actions_offset : ℕ
actions_offset = 6

abbrev pub states_offset : ℕ
states_offset = 7

-- request Three: 'Version 2 adds a byte at offset 8 with the number of effects'
abbrev pub effects_offset : ℕ
effects_offset = 8

-- version 1, in which each action has one effect, with no antecedent
abbrev pub plain_version : ℕ
plain_version = 1

abbrev pub effects_version : ℕ
effects_version = 2

-- where the number of effects stands: in version 1 it is that of the actions
unfoldable pub effects_place : ℕ → ℕ
effects_place version = choose (same version plain_version) actions_offset effects_offset

unfoldable pub counts_in : List ℕ → Counts
counts_in file = record {
  version = version file;
  props = get_or file props_offset 0;
  actions = get_or file actions_offset 0;
  effects = get_or file (effects_place (version file)) 0;
  states = get_or file states_offset 0;
}

-- the file has version 1; if it is taken and has not, it has version 2
abbrev pub plain : Counts → Bool
plain c = same c.version plain_version

-- 'From 8': how long the head of version 1 is, and that of version 2
abbrev pub head_bytes : ℕ
head_bytes = 8

abbrev pub long_head : ℕ
long_head = 9

-- version 1: 'A actions of 12 bytes: precondition, add, delete': where the three sets of action a lie
abbrev pub action_at : ℕ → ℕ
action_at a = head_bytes + 12 * a

-- version 2: 'the actions, only their 4-byte preconditions; then E effects of 13 bytes: action number, antecedent, add, delete': where effect e lies
abbrev pub effect_bytes : ℕ
effect_bytes = 13

abbrev pub effect_at : Counts → ℕ → ℕ
effect_at c e = long_head + set_bytes * c.actions + effect_bytes * e

abbrev pub when_at : Counts → ℕ → ℕ
when_at c e = effect_at c e + 1

-- in either version: the precondition of action a, and the three sets of effect e, of which in version 1 the first is the precondition
unfoldable pub pre_at : Counts → ℕ → ℕ
pre_at c a = choose (plain c) (action_at a) (long_head + set_bytes * a)

unfoldable pub sets_at : Counts → ℕ → ℕ
sets_at c e = choose (plain c) (action_at e) (when_at c e)

abbrev pub add_at : Counts → ℕ → ℕ
add_at c e = sets_at c e + set_bytes

abbrev pub del_at : Counts → ℕ → ℕ
del_at c e = sets_at c e + 2 * set_bytes

-- 'then the start states': where they begin, and where state s lies
unfoldable pub states_at : Counts → ℕ
states_at c = choose (plain c) (action_at c.actions) (effect_at c c.effects)

abbrev pub state_at : Counts → ℕ → ℕ
state_at c s = states_at c + set_bytes * s

-- 'Length exactly 8 + 12A + 4N', 'length 9 + 4A + 13E + 4N'
abbrev pub right_length : Counts → ℕ
right_length c = states_at c + set_bytes * c.states

-- the actions and their effects, and what each start state contains
unfoldable pub actions_of : List ℕ → Counts → Actions
actions_of file c = record {
  props = c.props;
  count = c.actions;
  pre = λ a. set_at file (pre_at c a);
  effects = c.effects;
  owner = λ e. choose (plain c) e (get_or file (effect_at c e) 0);
  when = λ e. choose (plain c) 0 (set_at file (when_at c e));
  add = λ e. set_at file (add_at c e);
  del = λ e. set_at file (del_at c e);
}

unfoldable pub start_of : List ℕ → Counts → ℕ → ℕ
start_of file c s = set_at file (state_at c s)

-- the vertices of the file's graphs
abbrev pub domain_of : List ℕ → Counts → Domain
domain_of file c = domain (actions_of file c)

-- how many of each a graph of the file has: 'V = E + P'
abbrev pub shape_in : Counts → Shape
shape_in c = record { props = c.props; vertices = c.effects + c.props }

-- ---- the file with other start states: 'the same bytes before the start states, N's byte aside, and then just these start states'

unfoldable pub with_count : Counts → ℕ → Counts
with_count c n = record { version = c.version; props = c.props; actions = c.actions; effects = c.effects; states = n }

-- the bytes before the start states, with N's byte
unfoldable pub before_states : List ℕ → Counts → ℕ → List ℕ
before_states file c n = take states_offset file ++ (n ∷ take (states_at c - head_bytes) (drop head_bytes file))

unfoldable pub with_states : List ℕ → Counts → List ℕ → List ℕ
with_states file c sets = before_states file c (length sets) ++ run_over (length sets) (λ s. bytes_of (get_or sets s 0))
