-- The plan's search as the code holds it: what the effects need, whose they are and which add each proposition in three lists, the layer below in lent memory.
use Rattle.std.specs.Prelude.{ℕ, ◌+◌, ◌^◌, ◌≤◌, ◌<◌, ◌≡◌, false, List, Option, Some, None, Result, Ok, Err, length, get_or}
use Rattle.rules.specs.Test.{same, choose}
use Rattle.rules.specs.Word.{bit, common, union, without}
use Rattle.rules.specs.Over.{keep}
use Rattle.rules.specs.Lists.{list_over}
use Rattle.rules.specs.Layer.{label_in}
use Rattle.rules.specs.Shared.{start_label}
use Rattle.rules.specs.Domain.{Actions}
use Rattle.rules.specs.Plan.{Support, Covered, covered, uncovered, cover, Planned, planned, stuck}
use Rattle.rules.specs.declared.Shape.{Shape}
use Rattle.words.specs.Width.{prop_width}
use Rattle.words.specs.Rows.{Inside}
use Rattle.graph.specs.Limits.{max_actions, max_effects}
use Rattle.plan.specs.declared.layer.Took.{Took}
use Rattle.plan.specs.declared.layer.Marked.{Marked}

-- the effects that these lists tell of: what each needs (here all as its antecedent), its action, and of each proposition those that add it; a plan reads
-- no delete
unfoldable pub listed_actions : List ℕ → List ℕ → List ℕ → Actions
listed_actions needs owners adders = record {
  props = length adders;
  count = max_actions;
  pre = λ a. 0;
  effects = length needs;
  owner = λ e. get_or owners e 0;
  when = λ e. get_or needs e 0;
  add = start_label (length adders) (λ p. get_or adders p 0);
  del = λ e. 0;
}

-- how many propositions and vertices the graph of such effects has
abbrev pub listed_shape : List ℕ → List ℕ → Shape
listed_shape needs adders = record { props = length adders; vertices = length needs + length adders }

-- no list is too long, needs and adders name members of each other only, and each effect has an action
pub record Tables (needs owners adders : List ℕ) : Type 0 where
  pub props : length adders ≤ prop_width
  pub few : length needs ≤ max_effects
  pub need : Inside (length adders) needs
  pub owned : length owners ≡ length needs
  pub owner : (e : ℕ) → e < length needs → get_or owners e 0 < max_actions
  pub add : Inside (length needs) adders

-- of what is needed, all propositions that are needed at all are among these
pub record Live (live : ℕ) (needed : List ℕ) : Type 0 where
  pub inside : live < 2 ^ length needed
  pub rest : (p : ℕ) → p < length needed → bit p live ≡ false → get_or needed p 0 ≡ 0

-- the search as the rules have it
abbrev pub held : Took → List ℕ → Support
held s needed = record { left = s.left; marks = s.marks; needed = needed }

-- what a vertex takes by its label: it is needed of its needs, and where it is not empty the mark is made
unfoldable pub took : ℕ → ℕ → ℕ → Support → Support
took label needs mark s =
    let t = common s.left label in
    record {
      left = without s.left t;
      marks = choose (same t 0) s.marks (union s.marks mark);
      needed = list_over (length s.needed) (λ q. union (label_in s.needed q) (keep (bit q needs) t));
    }

-- the search and the memory below it, once a vertex took what it can
pub record Turned (label needs mark : ℕ) (s : Took) (under : List ℕ) (r : Took) (under' : List ℕ) : Type 0 where
  pub is : held r under' ≡ took label needs mark (held s under)
  pub live : Live r.live under'

-- what one layer's search asks of its lists: `wanted` has a word for each proposition, `labels` one for each vertex
pub record LayerLists (wanted : List ℕ) (among : ℕ) (labels needs owners adders : List ℕ) : Type 0 where
  pub tables : Tables needs owners adders
  pub wide : length wanted ≡ length adders
  pub live : Live among wanted
  pub labelled : length needs + length adders ≤ length labels

-- what a layer's answer says, with what it left in the memory
abbrev pub covered_as : Option Marked → List ℕ → Covered
covered_as (Some layer) under = covered layer.marks under
covered_as None under = uncovered

-- and what it tells of the layer below
abbrev pub LiveAs : Option Marked → List ℕ → Type 0
LiveAs (Some layer) under = Live layer.live under
LiveAs None under = Unit {0}

-- the answer to a layer's search, and the memory that it leaves
pub record Covers (A : Actions) (labels wanted : List ℕ) (r : Option Marked) (under : List ℕ) : Type 0 where
  pub is : covered_as r under ≡ cover A labels wanted
  pub live : LiveAs r under

-- what a descent's answer says, with the words it left
abbrev pub planned_as : Result (Unit {0}) ℕ → List ℕ → Planned
planned_as (Ok u) plan = planned plan
planned_as (Err t) plan = stuck t
