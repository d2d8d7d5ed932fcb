-- The scan of a pair of propositions by the tables of a step. That these are the looks of the rules is a law of `layers`.
use Rattle.std.specs.Prelude.{ℕ, suc, ◌+◌, ◌-◌, ◌*◌, ◌≤◌, ◌<◌, ◌≡◌, List, length, get_or}
use Rattle.std.proofs.Math.Bool.{So}
use Rattle.std.specs.Int.Count.{ones}
use Rattle.rules.specs.Test.{same, choose}
use Rattle.rules.specs.Word.{bit, common, union, without, single}
use Rattle.rules.specs.Over.{join_of, sum_over}
use Rattle.rules.specs.Scan.{Scan, scan_at, look, scan_of}
use Rattle.words.specs.Rows.{row_length, cell, Inside}

-- the words that a scan looks at, one for each index: from `base` on, `step` apart
abbrev pub word_at : List ℕ → ℕ → ℕ → ℕ → ℕ
word_at table base step i = get_or table (base + i * step) 0

-- the pairs of the effect v with what adds q: the other effects of `upper`, rising, then the persistence
unfoldable pub row_looks : List ℕ → List ℕ → ℕ → ℕ → ℕ → Scan → Scan
row_looks mates r upper q v s = look (cell r v q) (scan_of row_length (without upper (single v)) (λ w. look (cell mates v w)) s)

-- the scan of p and q before its last look, at the pair of their persistences; `lower` and `upper` are the effects that add them
unfoldable pub before_last : List ℕ → List ℕ → List ℕ → ℕ → ℕ → ℕ → ℕ → ℕ → Scan
before_last live mates r lower upper p q both =
    scan_of row_length upper (λ w. look (cell r w p))
    (scan_of row_length lower (row_looks mates r upper q)
    (scan_of row_length (common lower upper) (λ v. look (get_or live v 0)) (scan_at both 0)))

-- how many looks there are with one more, which is made where something is left
unfoldable pub with_last : Scan → ℕ
with_last s = choose (same s.left 0) s.looked (suc s.looked)

-- the looks at p and q, whose labels are in `labels`
unfoldable pub pair_count : List ℕ → List ℕ → List ℕ → List ℕ → List ℕ → ℕ → ℕ → ℕ
pair_count adders labels live mates r p q =
    with_last (before_last live mates r (get_or adders p 0) (get_or adders q 0) p q (common (get_or labels p 0) (get_or labels q 0)))

-- those of row p of n propositions, and of all rows
unfoldable pub row_count : ℕ → List ℕ → List ℕ → List ℕ → List ℕ → List ℕ → ℕ → ℕ
row_count n adders labels live mates r p = sum_over (n - 1 - p) (λ k. pair_count adders labels live mates r p (p + 1 + k))

unfoldable pub table_looks : ℕ → List ℕ → List ℕ → List ℕ → List ℕ → List ℕ → ℕ
table_looks n adders labels live mates r = sum_over n (row_count n adders labels live mates r)

-- what the tables tell of each other: an effect is together with itself where it is;
-- `besides` has what an effect is together with among the adders of a proposition, `spare` that joined over the effects that add another
pub record Alike (adders live mates r besides spare : List ℕ) : Type 0 where
  pub own : (v p : ℕ) → p < length adders → So (bit v (get_or adders p 0)) → cell mates v v ≡ get_or live v 0
  pub beside : (v p q : ℕ) → p < length adders → q < length adders → So (bit v (get_or adders p 0))
      → cell besides v q ≡ union (cell r v q) (join_of row_length (get_or adders q 0) (cell mates v))
  pub joined : (p q : ℕ) → p < length adders → q < length adders → cell spare p q ≡ join_of row_length (get_or adders p 0) (λ v. cell besides v q)

-- the same of one pair: the rows of the effects of `lower` with q
pub record Beside (mates r besides : List ℕ) (lower upper q : ℕ) : Type 0 where
  pub is : (v : ℕ) → So (bit v lower) → cell besides v q ≡ union (cell r v q) (join_of row_length upper (cell mates v))

-- nothing is left of what an effect has that adds both
abbrev pub Parted : List ℕ → ℕ → ℕ → ℕ → Type 0
Parted mates lower upper left = (v : ℕ) → So (bit v lower) → So (bit v upper) → common left (cell mates v v) ≡ 0

-- what the code asks of the adders, and of a list of how many vertices add each
pub record Listed (adders sizes : List ℕ) : Type 0 where
  pub few : length adders ≤ row_length
  pub inside : Inside row_length adders
  pub sizes_long : length adders ≤ length sizes
  pub sizes_are : (p : ℕ) → p < length adders → get_or sizes p 0 ≡ ones (get_or adders p 0) + 1

-- no pair takes more looks
abbrev pub most_looks : ℕ
most_looks = 4096
