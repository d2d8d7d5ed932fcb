-- The words of a layer, from labels and tables.
use Rattle.std.specs.Prelude.{ℕ, ◌+◌, ◌-◌, ◌≤◌, ◌<◌, ◌≡◌, List, ◌++◌, length, get_or}
use Rattle.rules.specs.Word.{common, without}
use Rattle.rules.specs.Lists.{list_over, run_over}
use Rattle.rules.specs.Layer.{row_of}
use Rattle.words.specs.Rows.{row_length, table_length, cell}

-- the mutex word of p and q, of what is together in a table
unfoldable pub apart : List ℕ → List ℕ → ℕ → ℕ → ℕ
apart labels t p q = without (common (get_or labels p 0) (get_or labels q 0)) (cell t p q)

-- n labels in a row, and a table
pub record Laid (n : ℕ) (labels t : List ℕ) : Type 0 where
  pub props : n ≤ row_length
  pub labels_long : length labels ≡ row_length
  pub t_long : length t ≡ table_length

-- the labels of the first n are those that the table has
abbrev pub Diagonal : ℕ → List ℕ → List ℕ → Type 0
Diagonal n labels t = (p : ℕ) → p < n → get_or labels p 0 ≡ cell t p p

-- the mutex words of effect i with the later ones of a effects, then with each of n propositions
unfoldable pub effect_row : ℕ → ℕ → List ℕ → List ℕ → List ℕ → List ℕ → ℕ → List ℕ
effect_row n a live labels mates r i =
    list_over (a - 1 - i) (λ k. apart live mates i (i + 1 + k)) ++ list_over n (λ q. without (common (get_or live i 0) (get_or labels q 0)) (cell r i q))

-- labels of the effects, then of the persistences; pairs of the effects, then of the persistences, which are those of the propositions
unfoldable pub action_words : ℕ → ℕ → List ℕ → List ℕ → List ℕ → List ℕ → List ℕ → List ℕ
action_words n a live labels t mates r =
    (list_over a (λ i. get_or live i 0) ++ list_over n (λ p. get_or labels p 0))
    ++ (run_over a (effect_row n a live labels mates r) ++ run_over n (row_of n (apart labels t)))

-- labels of a effects and n propositions, in rows
pub record Labelled (n a : ℕ) (labels : List ℕ) : Type 0 where
  pub props : n ≤ row_length
  pub effects : a ≤ row_length
  pub labels_long : length labels ≡ row_length
