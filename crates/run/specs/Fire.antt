-- Version 2: the sets of all states, kept by proposition as words of states, and what a step does to them.
use Rattle.std.specs.Prelude.{ℕ, zero, suc, ◌+◌, ◌≤◌, ◌<◌, ◌≡◌, Bool, List, length, get_or}
use Rattle.std.proofs.Math.Bool.{So}
use Rattle.rules.specs.Test.{◌and◌, fails, same, choose}
use Rattle.rules.specs.Word.{bit, common, union, without, within, meets, single}
use Rattle.rules.specs.Over.{keep, join_over, join_of, meet_of, all_below, first_below}
use Rattle.rules.specs.Lists.{list_over}
use Rattle.rules.specs.Domain.{Actions}
use Rattle.rules.specs.Shared.{start_label}
use Rattle.words.specs.Width.{prop_width}
use Rattle.words.specs.Rows.{row_length}
use Rattle.graph.specs.Limits.{max_effects}
use Rattle.run.specs.Course.{leaves, brings, further}
use Rattle.run.specs.declared.fire.Fired.{Fired}
use Rattle.run.specs.declared.fire.Stepped.{Stepped}
use Rattle.run.specs.declared.fire.Stepped.TheVariants as did

-- of each proposition the states whose set has it, of n states with the sets xs
unfoldable pub labels_of : ℕ → List ℕ → List ℕ
labels_of n xs = list_over row_length (start_label n (λ s. get_or xs s 0))

-- and the set of state s read back from them
unfoldable pub set_in : List ℕ → ℕ → ℕ
set_in labels s = start_label row_length (λ p. get_or labels p 0) s

-- of proposition p, which these states have: whether some state of the set lacks it, and above that whether some state of it has it
unfoldable pub literals_in : ℕ → ℕ → ℕ → ℕ
literals_in set p label = union (keep (fails (within set label)) (single p)) (keep (meets label set) (single (prop_width + p)))

-- what some state of the set lacks, and above that what some state of it has
unfoldable pub course_in : ℕ → List ℕ → ℕ
course_in set labels = join_over row_length (λ p. literals_in set p (get_or labels p 0))

-- of proposition p, while only the word is kept up: what none lacks all states of the set have, what none has all lack, and else the label tells
unfoldable pub settled_label : ℕ → ℕ → ℕ → ℕ → ℕ
settled_label set course p label = choose (bit p course) (choose (bit (prop_width + p) course) label (without label set)) (union label set)

unfoldable pub settled : ℕ → ℕ → List ℕ → List ℕ
settled set course labels = list_over row_length (λ p. settled_label set course p (get_or labels p 0))

-- the effects of action a, as a word
unfoldable pub effects_of : Actions → ℕ → ℕ
effects_of A a = join_over A.effects (λ e. keep (same (A.owner e) a) (single e))

-- the states of the set that have all of these propositions
unfoldable pub having : List ℕ → ℕ → ℕ → ℕ
having labels set props = meet_of row_length props (λ p. get_or labels p 0) set

-- the states of the set in which effect e fires: its antecedent holds there
unfoldable pub fired_in : Actions → ℕ → List ℕ → ℕ → ℕ
fired_in A set labels e = having labels set (A.when e)

-- these words of the effects in the word `by`, and of the others what `fired` has
unfoldable pub fired_by : Actions → ℕ → ℕ → List ℕ → List ℕ → List ℕ
fired_by A set by labels fired = list_over max_effects (λ e. choose (bit e by) (fired_in A set labels e) (get_or fired e 0))

-- the states t are some states of the set, and not all of them
unfoldable pub partly : ℕ → ℕ → Bool
partly set t = fails (same t set) and fails (same t 0)

-- of an effect that fires in the states t: what it deletes and adds, if these are all states of the set; itself, if they are some of them
unfoldable pub of_effect : Actions → ℕ → ℕ → ℕ → Fired
of_effect A set e t = record { del = keep (same t set) (A.del e); add = keep (same t set) (A.add e); some = keep (partly set t) (single e) }

-- both together
unfoldable pub join_fired : Fired → Fired → Fired
join_fired f g = record { del = union f.del g.del; add = union f.add g.add; some = union f.some g.some }

-- of all effects in the word `by`
unfoldable pub of_effects : Actions → ℕ → ℕ → List ℕ → Fired
of_effects A set by labels = record {
  del = join_of A.effects by (λ e. (of_effect A set e (fired_in A set labels e)).del);
  add = join_of A.effects by (λ e. (of_effect A set e (fired_in A set labels e)).add);
  some = join_of A.effects by (λ e. (of_effect A set e (fired_in A set labels e)).some);
}

-- of n effects those of the word `by`, with the sets of propositions that are given: the states in which one of them fires that has p in its set
unfoldable pub touched : ℕ → (ℕ → ℕ) → ℕ → List ℕ → ℕ → ℕ
touched n sets by fired p = join_of n by (λ e. keep (bit p (sets e)) (get_or fired e 0))

-- the labels without what these effects delete, and with what they add
unfoldable pub removed_by : Actions → ℕ → List ℕ → List ℕ → List ℕ
removed_by A by fired labels = list_over row_length (λ p. without (get_or labels p 0) (touched A.effects A.del by fired p))

unfoldable pub joined_by : Actions → ℕ → List ℕ → List ℕ → List ℕ
joined_by A by fired labels = list_over row_length (λ p. union (get_or labels p 0) (touched A.effects A.add by fired p))

-- the effects `by`, in every state of the set, each by what held before them all. Request Five: 'Deletes are removed first, adds joined after',
-- 'over all fired effects'
unfoldable pub applied_in : Actions → ℕ → ℕ → List ℕ → List ℕ
applied_in A set by labels = list_over row_length (λ p.
    union (without (get_or labels p 0) (touched A.effects A.del by (list_over max_effects (fired_in A set labels)) p))
    (touched A.effects A.add by (list_over max_effects (fired_in A set labels)) p))

-- a step of action a
unfoldable pub stepped_in : Actions → ℕ → ℕ → List ℕ → List ℕ
stepped_in A set a labels = applied_in A set (effects_of A a) labels

-- every state of the set has its precondition
unfoldable pub ready_in : Actions → ℕ → ℕ → List ℕ → Bool
ready_in A set a labels = same (having labels set (A.pre a)) set

-- both rows are the same
unfoldable pub same_rows : List ℕ → List ℕ → Bool
same_rows xs ys = all_below row_length (λ p. same (get_or xs p 0) (get_or ys p 0))

-- effects that fire in every state of the set, and delete and add this in all
unfoldable pub evenly : ℕ → ℕ → ℕ → List ℕ → List ℕ
evenly set del add labels = list_over row_length (λ p. union (without (get_or labels p 0) (keep (bit p del) set)) (keep (bit p add) set))

-- what the word tells of them
unfoldable pub even_answer : ℕ → ℕ → ℕ → Stepped
even_answer course del add =
    choose (same (common course (leaves del add)) course) did.Unchanged (did.Changed (further (leaves del add) (brings del add) course))

-- the word after a step with this answer
unfoldable pub next_of : ℕ → Stepped → ℕ
next_of course did.Missing = course
next_of course (did.Changed next) = next
next_of course did.Unchanged = course

-- request Eight, of what the states had before and have after a step: 'changed some state of the set, changed none'
unfoldable pub told : ℕ → List ℕ → List ℕ → Stepped
told set before after = choose (same_rows before after) did.Unchanged (did.Changed (course_in set after))

-- and 'precondition missing'
unfoldable pub answer_in : Actions → ℕ → ℕ → List ℕ → Stepped
answer_in A set a labels = choose (ready_in A set a labels) (told set labels (stepped_in A set a labels)) did.Missing

-- after the first i steps of the list
unfoldable pub labels_at : Actions → ℕ → List ℕ → List ℕ → ℕ → List ℕ
labels_at A set list labels zero = labels
labels_at A set list labels (suc i) = stepped_in A set (get_or list i 0) (labels_at A set list labels i)

unfoldable pub ready_at : Actions → ℕ → List ℕ → List ℕ → ℕ → Bool
ready_at A set list labels i = ready_in A set (get_or list i 0) (labels_at A set list labels i)

-- the first step that lacks its precondition, and the list's length where there is none
unfoldable pub first_lack : Actions → ℕ → List ℕ → List ℕ → ℕ
first_lack A set list labels = first_below (length list) (λ i. fails (ready_at A set list labels i))

-- how many of the first i steps change no state of the set
unfoldable pub idle_at : Actions → ℕ → List ℕ → List ℕ → ℕ → ℕ
idle_at A set list labels zero = 0
idle_at A set list labels (suc i) =
    idle_at A set list labels i + keep (same_rows (labels_at A set list labels i) (labels_at A set list labels (suc i))) 1

-- i steps of the list had their preconditions, from the labels `labels₀` on, and so many of them were idle
pub record Stepping (A : Actions) (set : ℕ) (list labels₀ labels : List ℕ) (i course idle : ℕ) : Type 0 where
  pub inside : i ≤ length list
  pub long : length labels ≡ row_length
  pub are : labels ≡ labels_at A set list labels₀ i
  pub had : (k : ℕ) → k < i → So (ready_at A set list labels₀ k)
  pub course_is : course ≡ course_in set labels
  pub idle_is : idle ≡ idle_at A set list labels₀ i
  pub few : idle ≤ i
