-- One goal after the other over the same words: what is remembered of the words and of the rest, and the entry that is made of it.
use Rattle.std.specs.Prelude.{ℕ, suc, ◌+◌, ◌*◌, ◌^◌, ◌<◌, ◌≡◌, List, length, get_or}
use Rattle.std.proofs.Math.Bool.{So}
use Rattle.rules.specs.Test.{same, below, choose}
use Rattle.rules.specs.Word.{bit}
use Rattle.rules.specs.Layer.{size}
use Rattle.rules.specs.Level.{first_met, first_rest}
use Rattle.rules.specs.declared.Shape.{Shape}
use Rattle.words.specs.Width.{prop_width}
use Rattle.level.specs.Meets.{shown_at, PassedOver}
use Rattle.page.specs.Rule.{never_entry, not_by_depth_entry, goal_entry}

-- ---- what is remembered of the words of the proposition layers

-- of each label a layer, before which there is none where it contains the set
pub record Firsts (S : Shape) (words : List ℕ) (k set : ℕ) (firsts : List ℕ) : Type 0 where
  pub long : length firsts ≡ prop_width
  pub each : (p : ℕ) → p < S.props → PassedOver S words k set p (shown_at S.props set p) 0 (get_or firsts p 0)

-- two numbers for each word of the widest layer
abbrev pub rows_length : ℕ
rows_length = 1056

-- of each word a row of layers, from one on up to another, in none of which it shows what it does where a goal is met: the first number is where the row
-- begins, the second where it ends
pub record Rows (S : Shape) (words : List ℕ) (k set : ℕ) (rows : List ℕ) : Type 0 where
  pub long : length rows ≡ rows_length
  pub each : (place : ℕ) → place < size S.props
      → PassedOver S words k set place (shown_at S.props set place) (get_or rows (2 * place) 0) (get_or rows (2 * place + 1) 0)

pub record Remembers (S : Shape) (words : List ℕ) (k set : ℕ) (firsts rows : List ℕ) : Type 0 where
  pub of_labels : Firsts S words k set firsts
  pub of_words : Rows S words k set rows

-- the layer is one that is remembered of a label of the goal, of n propositions, or 0
pub data OfLabel (firsts : List ℕ) (n goal t : ℕ) : Type 0 where
  of_none : t ≡ 0 → OfLabel firsts n goal t
  of_one : (p : ℕ) → p < n → So (bit p goal) → t ≡ get_or firsts p 0 → OfLabel firsts n goal t

-- ---- the entry of a goal, by the layer that is found

-- the first layer that meets the goal, and k + 1 where none does; the entry of a goal that has others than these propositions
unfoldable pub met_layer : Shape → ℕ → ℕ → ℕ → List ℕ → ℕ
met_layer S k set goal words = choose (below goal (2 ^ S.props)) (first_met S k set goal words) goal_entry

-- the entry of a goal that no layer meets
unfoldable pub unmet_entry : Shape → ℕ → List ℕ → ℕ
unmet_entry S k words = choose (below (first_rest S k words) k) never_entry not_by_depth_entry

-- the entry by both
unfoldable pub entry_by : ℕ → ℕ → ℕ → ℕ
entry_by k t unmet = choose (same t (suc k)) unmet t

-- the entry of a goal over words of this shape
unfoldable pub entry_in : Shape → ℕ → ℕ → ℕ → List ℕ → ℕ
entry_in S k set goal words = entry_by k (met_layer S k set goal words) (unmet_entry S k words)
