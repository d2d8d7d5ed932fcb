-- Version 2: steps whose effects fire in every state of the set or in none, by the word alone.
use Rattle.std.specs.Prelude.{ℕ, ◌*◌, ◌%◌, ◌^◌, ◌≤◌, ◌<◌, ◌≡◌, Bool, List, Option, Some, None, Result, Ok, Err, length, get_or}
use Rattle.std.proofs.Math.Bool.{So}
use Rattle.rules.specs.Test.{◌and◌, fails, same}
use Rattle.rules.specs.Word.{bit, common}
use Rattle.rules.specs.Over.{keep, join_of}
use Rattle.rules.specs.Lists.{list_over}
use Rattle.rules.specs.Domain.{Actions}
use Rattle.rules.specs.Shared.{start_label}
use Rattle.words.specs.Width.{prop_width, word_width}
use Rattle.words.specs.Rows.{row_length}
use Rattle.graph.specs.Limits.{max_effects}
use Rattle.graph.specs.Format.{actions_of, start_of}
use Rattle.graph.specs.declared.format.Counts.{Counts}
use Rattle.run.specs.Course.{pack, leaves, brings, further}
use Rattle.run.specs.Fire.{effects_of, settled, Stepping}
use Rattle.run.specs.declared.step.Walked.{Walked}
use Rattle.run.specs.declared.step.Made.{Made}
use Rattle.run.specs.declared.step.Unmade.{Unmade}
use Rattle.run.specs.declared.step.Unmade.TheVariants as unmade

-- a set of propositions, as bits of what some state has
unfoldable pub above : ℕ → ℕ
above props = (props * 2 ^ prop_width) % 2 ^ word_width

-- no state of the set lacks any of the antecedent: the effect fires in every state of it
unfoldable pub everywhere : ℕ → ℕ → Bool
everywhere w when = same (common w when) 0

-- some state lacks some of it, and each of it is had by some state: the word does not tell where the effect fires
unfoldable pub untold : ℕ → ℕ → Bool
untold w when = fails (everywhere w when) and same (common w (above when)) (above when)

-- what goes of the word by effect e, if that fires in every state: what it adds no state lacks any more, what it deletes none has
unfoldable pub goes_of : Actions → ℕ → ℕ
goes_of A e = pack (A.add e) (A.del e)

-- of the effects in the word `by` those that fire in every state, together; their antecedents and what goes by them stand in two lists
unfoldable pub goes_by : List ℕ → List ℕ → ℕ → ℕ → ℕ
goes_by when goes by w = join_of (length when) by (λ e. keep (everywhere w (get_or when e 0)) (get_or goes e 0))

-- what the word tells of these effects: what goes by them, and of none is it untold where it fires; or of this one it is
unfoldable pub Foretold : List ℕ → List ℕ → ℕ → ℕ → Option ℕ → Type 0
Foretold when goes by w (Some g) =
    (g ≡ goes_by when goes by w) × ((e : ℕ) → e < length when → So (bit e by) → So (fails (untold w (get_or when e 0))))
Foretold when goes by w None = (e : ℕ) × (e < length when) × So (bit e by) × So (untold w (get_or when e 0))

-- what becomes of the word where g goes of it: adds and deletes in every state of the set
unfoldable pub Moves : ℕ → ℕ → ℕ → ℕ → Type 0
Moves w g left next = (del add : ℕ) → del < 2 ^ prop_width → add < 2 ^ prop_width → g ≡ pack add del
    → (left ≡ common w (leaves del add)) × (next ≡ further (leaves del add) (brings del add) w)

-- a step of these effects, tried on the word
unfoldable pub TriedEvenly : List ℕ → List ℕ → ℕ → ℕ → ℕ → Result Made Unmade → Type 0
TriedEvenly when goes by need w (Err unmade.Missing) = common w need ≡ 0 → ⊥
TriedEvenly when goes by need w (Err unmade.Partly) = Foretold when goes by w None
TriedEvenly when goes by need w (Ok made) =
    (common w need ≡ 0) × ((g : ℕ) × Foretold when goes by w (Some g) × Moves w g made.left made.course)

-- lists with a word for each action and for each effect
pub record Fit (needs owned when goes : List ℕ) : Type 0 where
  pub room : length needs ≤ row_length
  pub few : length when ≤ max_effects
  pub as_goes : length goes ≡ length when
  pub inside : (a : ℕ) → a < length needs → get_or owned a 0 < 2 ^ length when

-- they tell these actions: their preconditions and effects, and of each effect the antecedent and what goes by it
pub record Tells (A : Actions) (needs owned when goes : List ℕ) : Type 0 where
  pub needed : needs ≡ list_over A.count A.pre
  pub own : owned ≡ list_over row_length (effects_of A)
  pub whens : when ≡ list_over A.effects A.when
  pub going : goes ≡ list_over A.effects (goes_of A)
  pub actions : A.count ≤ row_length
  pub effects : A.effects ≤ max_effects
  pub pre : (a : ℕ) → a < A.count → A.pre a < 2 ^ prop_width
  pub antecedent : (e : ℕ) → e < A.effects → A.when e < 2 ^ prop_width
  pub add : (e : ℕ) → e < A.effects → A.add e < 2 ^ prop_width
  pub del : (e : ℕ) → e < A.effects → A.del e < 2 ^ prop_width

-- where even steps lead from one place in the list to another: what the first word told of labels, of any actions that the lists tell, the second tells still
pub record GoesOn (needs owned when goes list : List ℕ) (from r : Walked) : Type 0 where
  pub few : r.idle ≤ r.made
  pub forth : from.made ≤ r.made
  pub inside : r.made ≤ length list
  pub on : (A : Actions) (set : ℕ) (labels₀ labels : List ℕ) → Tells A needs owned when goes → 0 < set
      → Stepping A set list labels₀ (settled set from.course labels) from.made from.course from.idle
      → Stepping A set list labels₀ (settled set r.course labels) r.made r.course r.idle

-- where the word alone led from the start states of a file
pub record Led (file : List ℕ) (c : Counts) (set : ℕ) (list needs owned when goes : List ℕ) (r : Walked) : Type 0 where
  pub tells : Tells (actions_of file c) needs owned when goes
  pub steps : (labels : List ℕ) → labels ≡ list_over row_length (start_label c.states (start_of file c))
      → Stepping (actions_of file c) set list labels (settled set r.course labels) r.made r.course r.idle
