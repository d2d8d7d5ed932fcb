-- Every word of the graph of n start states is one of n bits.
-- Assumes nothing.
use mathlib.Core.List.{List}
use Prim.Native.Nat.{ℕ, zero, suc, ◌^◌, ◌<◌}
use lib.Pow.{pow_pos}
use lib.ListN.{get_or}
use Rattle.rules.specs.Word.{first}
use Rattle.rules.specs.Domain.{Domain}
use Rattle.rules.specs.Layer.{label_in}
use Rattle.rules.specs.Shared.{start_label, start_layer, needs_label, needs_apart, vertex_label, vertex_mutex, action_layer, next_label, next_mutex, next_layer}
use Rattle.rules.specs.Shared.{prop_from, prop_layer, vertex_layer, graph_words}
use Rattle.rules.proofs.Words.{common_lt, without_lt, single_lt, first_lt}
use Rattle.rules.proofs.Overs.{join_over_lt, meet_over_lt, remove_over_lt, choose_lt, keep_lt}
use Rattle.rules.proofs.Matches.{Matches, match_at, match_layer, match_graph}

-- every word of the list is one of k bits, as is the 0 that is read beyond its end
abbrev pub Small : ℕ → List ℕ → Type 0
Small k l = (i : ℕ) → get_or l i 0 < 2 ^ k

module _ (k : ℕ) (l : List ℕ) (small : Small k l) where
  pub small_label : (i : ℕ) → label_in l i < 2 ^ k
  unfolding label_in
  small_label i = small i

-- ---- each layer of a graph, made of words of k bits

abbrev Fits : ℕ → List ℕ → Type 0
Fits k l = Matches (λ x y. x < 2 ^ k) l l

fits_small : (k : ℕ) {l : List ℕ} → Fits k l → Small k l
fits_small k f i = match_at (pow_pos k) f i

-- the label of a vertex, in any layer of m propositions
pub vertex_small : (m n : ℕ) (l : List ℕ) (needs : ℕ) → vertex_label m (first n) l needs < 2 ^ n
unfolding vertex_label needs_label
vertex_small m n l needs = without_lt n (needs_apart m l needs) (meet_over_lt n _ m (first_lt n))

module _ (D : Domain) (n : ℕ) (start : ℕ → ℕ) where
  start_fits : Fits n (start_layer D n start)
  unfolding start_layer start_label
  start_fits =
      match_layer _ _ _ _
      (λ p l. join_over_lt n _ (λ s h. keep_lt n (λ t. single_lt h))) (λ p q l r. pow_pos n)

  actions_fits : (l : List ℕ) → Fits n (action_layer D (first n) l)
  unfolding action_layer vertex_mutex
  actions_fits l =
      match_layer _ _ _ _ (λ v _. vertex_small D.props n l (D.needs v))
      (λ v w _ _. let both = common_lt n _ (vertex_small D.props n l (D.needs v)) in choose_lt (λ t. both) (common_lt n _ both))

  next_small : (a : List ℕ) → Small n a → (p : ℕ) → next_label D.vertices D.adds a p < 2 ^ n
  unfolding next_label
  next_small a h p = join_over_lt n _ (λ v l. keep_lt n (λ t. small_label n a h v))

  next_fits : (a : List ℕ) → Small n a → Fits n (next_layer D a)
  unfolding next_layer next_mutex
  next_fits a h =
      match_layer _ _ _ _ (λ p _. next_small a h p)
      (λ p q _ _. remove_over_lt n _ D.vertices (remove_over_lt n _ D.vertices (common_lt n _ (next_small a h p))))

  props_fits : (t : ℕ) → Fits n (prop_layer D n start t)
  unfolding prop_from
  props_fits zero = start_fits
  props_fits (suc t) = next_fits _ (fits_small n (actions_fits (prop_layer D n start t)))

  vertices_fits : (t : ℕ) → Fits n (vertex_layer D n start t)
  unfolding vertex_layer
  vertices_fits t = actions_fits (prop_layer D n start t)

  pub graph_small : (k : ℕ) → Small n (graph_words D n start k)
  graph_small k = fits_small n (match_graph D n start n start props_fits vertices_fits k)

-- ---- parts of a list of such words
