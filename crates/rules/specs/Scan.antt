-- Request Four, 'Pairs that are settled early': what the scan of a proposition pair looks at, and how many looks a build takes.
-- 'The words are the same as before': what a scan leaves is `nextMutex` (proofs/Scans).
use Rattle.std.specs.Prelude.{ℕ, zero, suc, ◌+◌, ◌-◌, Bool, List}
use Rattle.rules.specs.Test.{◌and◌, fails, same, choose}
use Rattle.rules.specs.Word.{bit, common, without, first}
use Rattle.rules.specs.Over.{count_below, sum_over}
use Rattle.rules.specs.Domain.{Domain}
use Rattle.rules.specs.Layer.{label_in, free_in}
use Rattle.rules.specs.Shared.{next_label, start_layer, action_layer, prop_from}

-- the start states that might still be mutex, and how many vertices and pairs were looked at
pub record Scan : Type 0 where
  pub left : ℕ
  pub looked : ℕ

abbrev pub scan_at : ℕ → ℕ → Scan
scan_at left looked = record { left = left; looked = looked }

-- one look: it counts, and what it shows to be free is taken away. It 'ends once no start state remains': then there is no look any more.
unfoldable pub look : ℕ → Scan → Scan
look w s = choose (same s.left 0) s (scan_at (without s.left w) (suc s.looked))

-- 'rising': f 0, then f 1 .. then f (n - 1)
unfoldable pub scan_over : ℕ → (ℕ → Scan → Scan) → Scan → Scan
scan_over zero f s = s
scan_over (suc n) f s = f n (scan_over n f s)

-- the same, at those below n for which the test holds
unfoldable pub scan_where : ℕ → (ℕ → Bool) → (ℕ → Scan → Scan) → Scan → Scan
scan_where n c f = scan_over n (λ i s. choose (c i) (f i s) s)

-- the same, at the members of a set
unfoldable pub scan_of : ℕ → ℕ → (ℕ → Scan → Scan) → Scan → Scan
scan_of n set = scan_where n (λ i. bit i set)

-- 'at the vertices adding both, rising': a vertex takes away its label
unfoldable pub look_ones : ℕ → (ℕ → ℕ) → List ℕ → ℕ → ℕ → Scan → Scan
look_ones n adds a p q = scan_where n (λ v. bit p (adds v) and bit q (adds v)) (λ v. look (label_in a v))

-- of the vertex v, 'at its pair with each different vertex adding the other': a pair takes away its common label less its mutex word
unfoldable pub look_with : ℕ → (ℕ → ℕ) → List ℕ → ℕ → ℕ → Scan → Scan
look_with n adds a q v = scan_where n (λ w. fails (same v w) and bit q (adds w)) (λ w. look (free_in n a v w))

-- so 'for each vertex adding the lower proposition', 'both rising'
unfoldable pub look_twos : ℕ → (ℕ → ℕ) → List ℕ → ℕ → ℕ → Scan → Scan
look_twos n adds a p q = scan_where n (λ v. bit p (adds v)) (look_with n adds a q)

-- the scan of p and q over the layer a of n vertices, where their labels share `both`: the vertices, then the pairs
unfoldable pub scanned : ℕ → (ℕ → ℕ) → List ℕ → ℕ → ℕ → ℕ → Scan
scanned n adds a both p q = look_twos n adds a p q (look_ones n adds a p q (scan_at both 0))

-- how many vertices other than v add q
unfoldable pub others : ℕ → (ℕ → ℕ) → ℕ → ℕ → ℕ
others n adds q v = count_below n (λ w. fails (same v w) and bit q (adds w))

-- how many vertices and pairs a scan that does not end early looks at
unfoldable pub all_looks : ℕ → (ℕ → ℕ) → ℕ → ℕ → ℕ
all_looks n adds p q =
    count_below n (λ v. bit p (adds v) and bit q (adds v)) + sum_over n (λ v. choose (bit p (adds v)) (others n adds q v) 0)

-- the looks at the pair p, q; 'none where the labels share no state'
unfoldable pub pair_looks : ℕ → (ℕ → ℕ) → List ℕ → ℕ → ℕ → ℕ
pair_looks n adds a p q = (scanned n adds a (common (next_label n adds a p) (next_label n adds a q)) p q).looked

-- the looks of a step that writes m propositions over the layer a of n vertices: row by row, as the pairs lie in the layer
unfoldable pub looks_of : ℕ → ℕ → (ℕ → ℕ) → List ℕ → ℕ
looks_of m n adds a = sum_over m (λ p. sum_over (m - 1 - p) (λ k. pair_looks n adds a p (p + 1 + k)))

-- the looks of the step over the proposition layer l
unfoldable pub step_looks : Domain → ℕ → List ℕ → ℕ
step_looks D all l = looks_of D.props D.vertices D.adds (action_layer D all l)

-- 'how many vertices and pairs its scans looked at in all', over k steps from the proposition layer l on
unfoldable pub looks_from : Domain → ℕ → List ℕ → ℕ → ℕ
looks_from D all l k = sum_over k (λ t. step_looks D all (prop_from D all l t))

-- those of the graph of n start states to depth k
abbrev pub looks_in : Domain → ℕ → (ℕ → ℕ) → ℕ → ℕ
looks_in D n start = looks_from D (first n) (start_layer D n start)
