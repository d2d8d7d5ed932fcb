-- A step of the graph, by the lists of the effects' sets and the tables of what is together.
use Rattle.std.specs.Prelude.{ℕ, ◌+◌, ◌*◌, ◌≤◌, ◌<◌, ◌≡◌, Bool, true, List, ◌++◌, length, get_or}
use Rattle.rules.specs.Word.{bit}
use Rattle.rules.specs.Domain.{Domain, Actions, condition, persistence, interfere_of, domain}
use Rattle.rules.specs.Layer.{size, label_in, free_in}
use Rattle.rules.specs.Shared.{start_label, action_layer, next_layer}
use Rattle.rules.specs.Together.{layer_by, Consistent, beside}
use Rattle.rules.specs.Scan.{step_looks}
use Rattle.words.specs.Memory.{put_at}
use Rattle.words.specs.Rows.{row_length, table_length, cell, InParts}
use Rattle.scans.specs.Pairs.{most_looks}
use Rattle.together.specs.Cells.{Width, Span, row_for}

-- the action layer over the proposition layer l, and the next proposition layer behind it
unfoldable pub step_words : Domain → ℕ → List ℕ → List ℕ
step_words D all l = action_layer D all l ++ next_layer D (action_layer D all l)

-- the lists tell the effects of these actions: their needs and adds, the adders of each proposition, and those that interfere with each
pub record Told (A : Actions) (n : ℕ) (needs adds adders interferers : List ℕ) : Type 0 where
  pub props : A.props ≡ n
  pub effects : A.effects ≡ length needs
  pub need : (i : ℕ) → i < A.effects → get_or needs i 0 ≡ condition A i
  pub add : (i : ℕ) → i < A.effects → get_or adds i 0 ≡ A.add i
  pub by : (p : ℕ) → p < A.props → get_or adders p 0 ≡ start_label A.effects A.add p
  pub interfere : (i j : ℕ) → i < A.effects → j < A.effects → bit j (get_or interferers i 0) ≡ interfere_of A i j

-- and these what each deletes
abbrev pub Deletes : Actions → List ℕ → Type 0
Deletes A dels = (i : ℕ) → i < A.effects → get_or dels i 0 ≡ A.del i

-- the table tells what is together in a proposition layer, and `labels` its labels
pub record Tells (A : Actions) (all : ℕ) (labels t : List ℕ) : Type 0 where
  pub consistent : Consistent (domain A).props all (cell t)
  pub diagonal : (p : ℕ) → p < A.props → get_or labels p 0 ≡ cell t p p

-- the action layer over that proposition layer
abbrev pub over_of : Actions → ℕ → List ℕ → List ℕ
over_of A all t = action_layer (domain A) all (layer_by (domain A).props (cell t))

-- `live` has the labels of the effects, and r what each is together with among the propositions, whatever it deletes
pub record Admitted (A : Actions) (all : ℕ) (labels t live r : List ℕ) : Type 0 where
  pub label : (i : ℕ) → i < A.effects → get_or live i 0 ≡ label_in (over_of A all t) i
  pub row : (i q : ℕ) → i < A.effects → q < A.props → cell r i q ≡ row_for all labels t (condition A i) q

-- r has what each is together with among the persistences: that, without what it deletes
abbrev pub Kept : Actions → ℕ → List ℕ → List ℕ → Type 0
Kept A all t r = (i q : ℕ) → i < A.effects → q < A.props → cell r i q ≡ free_in (domain A).vertices (over_of A all t) i (persistence A q)

-- `mates` has what two effects are together in, and `besides` what each is together with among the adders of a proposition
pub record Mated (A : Actions) (all : ℕ) (t mates besides : List ℕ) : Type 0 where
  pub pair : (i j : ℕ) → i < A.effects → j < A.effects → cell mates i j ≡ free_in (domain A).vertices (over_of A all t) i j
  pub with_adders_lem : (i p : ℕ) → i < A.effects → p < A.props → cell besides i p ≡ beside (domain A) (over_of A all t) i p

-- what the code asks that finds them
pub record Mating (n width span : ℕ) (needs adders : List ℕ) : Type 0 where
  pub wide : Width n width needs
  pub spans : Span span needs
  pub adders_long : length adders ≡ n

-- the table of the next proposition layer; where nothing changed, it is the layer before
pub record Next (A : Actions) (all : ℕ) (t labels' t' : List ℕ) (still : Bool) : Type 0 where
  pub tells : Tells A all labels' t'
  pub layer : layer_by (domain A).props (cell t') ≡ next_layer (domain A) (over_of A all t)
  pub rests : still ≡ true → layer_by (domain A).props (cell t') ≡ layer_by (domain A).props (cell t)

-- what it asks of a whole step: `at` is where the proposition layer goes behind the action layer
pub record Ready (n width span at : ℕ) (needs adders words : List ℕ) : Type 0 where
  pub mating : Mating n width span needs adders
  pub place : at ≡ size (length needs + n)
  pub room : at + size n ≤ length words

-- no step looks at more
abbrev pub most_of_step : ℕ
most_of_step = row_length * (row_length * most_looks)

-- what a step leaves
pub record Stepped (A : Actions) (all : ℕ) (t labels' t' words words' : List ℕ) (still : Bool) (looked : ℕ) : Type 0 where
  pub next : Next A all t labels' t' still
  pub is : words' ≡ put_at 0 (step_words (domain A) all (layer_by (domain A).props (cell t))) words
  pub looks : looked ≡ step_looks (domain A) all (layer_by (domain A).props (cell t))

-- what the code asks that makes the table of layer 0
pub record Starting (n width : ℕ) (labels t spare : List ℕ) : Type 0 where
  pub parts : InParts width
  pub props : n ≤ width
  pub labels_long : length labels ≡ row_length
  pub t_long : length t ≡ table_length
  pub spare_long : length spare ≡ table_length
