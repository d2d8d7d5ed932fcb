-- The words in which Demand states what the calls promise together: the setting, and what is said of the states of a set.
use Rattle.std.specs.Prelude.{◌≡◌, List, ◌++◌, ◌⊎◌, ℕ, suc, ◌*◌, ◌^◌, ◌≤◌, ◌<◌, length, get_or}
use Rattle.std.proofs.Math.Bool.{So}
use Rattle.rules.specs.Test.{same, choose}
use Rattle.rules.specs.Word.{bit, first, within}
use Rattle.rules.specs.Domain.{Actions}
use Rattle.rules.specs.Layer.{props_in}
use Rattle.rules.specs.Level.{Level, level, never, not_by_depth}
use Rattle.rules.specs.Share.{Share, weight_of, total, holders}
use Rattle.rules.specs.Own.{admits, own_props, own_level}
use Rattle.graph.specs.Verdict.{Verdict, accepted, refused}
use Rattle.graph.specs.Format.{plain, effect_at, pre_at, counts_in, actions_of, start_of, domain_of, shape_in}
use Rattle.graph.specs.File.{head_rule, version_rule, counts_rule, length_rule, sets_rule, file_rule}
use Rattle.graph.specs.Build.{build_rule}
use Rattle.graph.specs.declared.format.Counts.{Counts}
use Rattle.page.specs.Rule.{never_entry, not_by_depth_entry, goal_entry}

-- the one holds exactly when the other does
abbrev pub Exactly : Type 0 → Type 0 → Type 0
Exactly X Y = (X → Y) × (Y → X)

-- An accepted file with its counts, a depth and memory (of so many words) that the build accepts; what a call finds begins with the words that the
-- build writes, then anything.
pub record Found (file : List ℕ) (c : Counts) (depth : ℕ) (found : List ℕ) : Type 0 where
  pub taken : file_rule file ≡ accepted c
  pub memory : ℕ
  pub words : List ℕ
  pub build : build_rule file depth memory ≡ accepted words
  pub rest : List ℕ
  pub begins : found ≡ words ++ rest

-- a non-empty set of the file's states
pub record StatesOf (c : Counts) (set : ℕ) : Type 0 where
  pub some : set ≡ 0 → ⊥
  pub few : set < 2 ^ c.states

-- a goal over the file's propositions
abbrev pub GoalOf : Counts → ℕ → Type 0
GoalOf c goal = goal < 2 ^ c.props

-- what holds of each state of S
abbrev pub Each : ℕ → (ℕ → Type 0) → Type 0
Each set P = (s : ℕ) → So (bit s set) → P s

-- 'The level that a state has by itself': that of its own graph, and depth + 1 where it has none
abbrev pub alone : List ℕ → Counts → ℕ → ℕ → ℕ → ℕ
alone file c depth goal s = own_level (domain_of file c) depth goal (start_of file c s)

-- t is the largest of the levels that the states of S have by themselves: none is larger, and one has it
pub record Largest (file : List ℕ) (c : Counts) (depth set goal t : ℕ) : Type 0 where
  pub none_larger : Each set (λ s. alone file c depth goal s ≤ t)
  pub state : ℕ
  pub member : So (bit state set)
  pub reached : alone file c depth goal state ≡ t

-- 'a list ends with the goal when the end set of each state of S contains every goal'
abbrev pub EndsWith : ℕ → ℕ → List ℕ → Type 0
EndsWith set goal ends = Each set (λ s. So (within goal (get_or ends s 0)))

-- an effect of action a whose antecedent holds in x: it fires in a step of the action from there
pub record Fires (A : Actions) (a x e : ℕ) : Type 0 where
  pub effect : e < A.effects
  pub own : A.owner e ≡ a
  pub held : So (within (A.when e) x)

-- p is added by an effect that fires, if `sets` are the add sets, or deleted, if they are the delete sets
abbrev pub ByFired : Actions → ℕ → ℕ → (ℕ → ℕ) → ℕ → Type 0
ByFired A a x sets p = (e : ℕ) × Fires A a x e × So (bit p (sets e))

-- Request Five: 'Deletes are removed first, adds joined after', 'over all fired effects'. So p holds in y, which a step of action a makes of x, exactly
-- when a fired effect adds it, or it held and no fired effect deletes it.
abbrev pub Makes : Actions → ℕ → ℕ → ℕ → Type 0
Makes A a x y = (p : ℕ) → Exactly (So (bit p y)) (ByFired A a x A.add p ⊎ (So (bit p x) × (ByFired A a x A.del p → ⊥)))

-- a list carried out that way from x to y: what the state has before each step, where the step's precondition is to hold, and at the end
pub record Carries (A : Actions) (list : List ℕ) (x y : ℕ) : Type 0 where
  pub sets : ℕ → ℕ
  pub start : sets 0 ≡ x
  pub needs : (i : ℕ) → i < length list → So (within (A.pre (get_or list i 0)) (sets i))
  pub steps : (i : ℕ) → i < length list → Makes A (get_or list i 0) (sets i) (sets (suc i))
  pub end : sets (length list) ≡ y

-- 'lists of action numbers below A of any length under this same rule': one that is carried out from each state of S and ends with the goal
pub record Reaches (file : List ℕ) (c : Counts) (set goal : ℕ) (list : List ℕ) : Type 0 where
  pub known : (i : ℕ) → i < length list → get_or list i 0 < c.actions
  pub ends : List ℕ
  pub carried : Each set (λ s. Carries (actions_of file c) list (start_of file c s) (get_or ends s 0))
  pub goals : EndsWith set goal ends

-- what an entry of a page says, read the other way round: 'the level, 256 for never, 257 for not by depth, 258 for its refusal 8'
unfoldable pub said_by : ℕ → Verdict Level
said_by e =
    choose (same e never_entry) (accepted never)
    (choose (same e not_by_depth_entry) (accepted not_by_depth)
    (choose (same e goal_entry) (refused 8 0)
    (accepted (level e))))

-- Request Two: 'Two actions with the same three sets', the earlier one b and the later one a, 'in version 1 only'
pub record EqualPair (file : List ℕ) (c : Counts) (b a : ℕ) : Type 0 where
  pub version : So (plain c)
  pub earlier : b < a
  pub later : a < c.actions
  pub pre : (actions_of file c).pre b ≡ (actions_of file c).pre a
  pub add : (actions_of file c).add b ≡ (actions_of file c).add a
  pub del : (actions_of file c).del b ≡ (actions_of file c).del a

-- 'place the offset of the later of the first such pair, ordered by the later one'
pub record FirstPair (file : List ℕ) (c : Counts) (place : ℕ) : Type 0 where
  pub b : ℕ
  pub a : ℕ
  pub pair : EqualPair file c b a
  pub offset : place ≡ pre_at c a
  pub first : (b' a' : ℕ) → EqualPair file c b' a' → a ≤ a'

-- a file that none of the causes 1 to 5 turns away
pub record Passes (file : List ℕ) : Type 0 where
  pub head : head_rule file ≡ accepted tt
  pub version : version_rule file ≡ accepted tt
  pub counts : counts_rule (counts_in file) ≡ accepted tt
  pub length : length_rule file (counts_in file) ≡ accepted tt
  pub sets : sets_rule file (counts_in file) ≡ accepted tt

-- Request Three: the first effect with 'an action number not below the action count', and 'its offset'
pub record FirstStray (file : List ℕ) (c : Counts) (place : ℕ) : Type 0 where
  pub e : ℕ
  pub effect : e < c.effects
  pub stray : c.actions ≤ (actions_of file c).owner e
  pub offset : place ≡ effect_at c e
  pub first : (e' : ℕ) → e' < e → (actions_of file c).owner e' < c.actions

-- each proposition of the set x is one of y
abbrev pub PartOf : ℕ → ℕ → Type 0
PartOf x y = (p : ℕ) → So (bit p x) → So (bit p y)

-- y lacks a proposition of x
abbrev pub Lacks : ℕ → ℕ → Type 0
Lacks x y = (p : ℕ) × So (bit p x) × (So (bit p y) → ⊥)

-- Request Six: 'The file's states are read as the sure sets and a lent list gives the possible sets': that of state s has all that is sure and is over the
-- file's propositions
pub record Encloses (file : List ℕ) (c : Counts) (possible : List ℕ) (s : ℕ) : Type 0 where
  pub sure : PartOf (start_of file c s) (get_or possible s 0)
  pub inside : get_or possible s 0 < 2 ^ c.props

-- 'one for each'
pub record Possible (file : List ℕ) (c : Counts) (possible : List ℕ) : Type 0 where
  pub long : length possible ≡ c.states
  pub each : (s : ℕ) → s < c.states → Encloses file c possible s

-- the first state whose 'possible set lacks a sure proposition or has bit P or above'
pub record FirstOpen (file : List ℕ) (c : Counts) (possible : List ℕ) (s : ℕ) : Type 0 where
  pub state : s < c.states
  pub wrong : Lacks (start_of file c s) (get_or possible s 0) ⊎ (2 ^ c.props ≤ get_or possible s 0)
  pub first : (s' : ℕ) → s' < s → Encloses file c possible s'

-- 'the list is not N long, or' there is such a state, 'place the number of the first such state, N for the length, which is looked at first'
abbrev pub NotPossible : List ℕ → Counts → List ℕ → ℕ → Type 0
NotPossible file c possible place =
    ((length possible ≡ c.states → ⊥) × (place ≡ c.states)) ⊎ ((length possible ≡ c.states) × FirstOpen file c possible place)

-- a 'choice of states lying between' the sure and the possible sets, one for each
pub record Between (file : List ℕ) (c : Counts) (possible chosen : List ℕ) : Type 0 where
  pub long : length chosen ≡ c.states
  pub sure : (s : ℕ) → s < c.states → PartOf (start_of file c s) (get_or chosen s 0)
  pub within : (s : ℕ) → s < c.states → PartOf (get_or chosen s 0) (get_or possible s 0)

-- Request Seven: weights and a share that cause 18 does not turn away. There is a weight for each state, a state that weighs something, a denominator
-- that is not 0, and a numerator not above it.
pub record Weighted (c : Counts) (share : Share) : Type 0 where
  pub long : length share.weights ≡ c.states
  pub state : ℕ
  pub one : state < c.states
  pub weighs : get_or share.weights state 0 ≡ 0 → ⊥
  pub some : share.denominator ≡ 0 → ⊥
  pub proper : share.numerator ≤ share.denominator

-- 'Each state gets a whole weight up to 65,535 and the share is a fraction of two such numbers.'
pub record Numbers (share : Share) : Type 0 where
  pub weights : (s : ℕ) → s < length share.weights → get_or share.weights s 0 ≤ 65535
  pub numerator : share.numerator ≤ 65535
  pub denominator : share.denominator ≤ 65535

-- the 'states with the whole goal, free of mutexes', in layer t of the words
abbrev pub holding : Counts → List ℕ → ℕ → ℕ → ℕ
holding c words goal t = holders c.props (first c.states) (props_in (shape_in c) words t) goal

-- state s is one of them in its own graph: layer t holds every goal, and no two of them are mutex
abbrev pub Holds : List ℕ → Counts → ℕ → ℕ → ℕ → Type 0
Holds file c goal t s = So (admits c.props (own_props (domain_of file c) (start_of file c s) t) goal)

-- t is 'the first layer where the weight' of these states, 'times the denominator, is at least the total weight times the numerator'
pub record FirstShare (c : Counts) (share : Share) (words : List ℕ) (goal t : ℕ) : Type 0 where
  pub there : total share.weights * share.numerator ≤ weight_of share.weights (holding c words goal t) * share.denominator
  pub before : (u : ℕ) → u < t → weight_of share.weights (holding c words goal u) * share.denominator < total share.weights * share.numerator
