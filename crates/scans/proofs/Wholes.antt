-- The scan of a pair as a whole: its three parts one after the other, what they take away, and how many looks there are.
-- Assumes nothing.
use mathlib.Core.Path.{◌≡◌, refl, sym, ap, ap₂, ◌∙◌}
use mathlib.Core.Bool.{Bool, true, false, So}
use mathlib.Core.Logic.{⊎_elim}
use mathlib.Core.List.{List, []}
use Prim.Native.Nat.{ℕ, zero, suc, ◌+◌, ◌*◌, ◌^◌, ◌≤◌, ◌<◌}
use native.Mathlib.Nat.{add-mul, mul-add, mul-le-mul}
use native.Mathlib.Omega.{arith}
use lib.Count.{ones, ones-le}
use lib.ListN.{length, get_or}
use Rattle.rules.specs.Test.{◌and◌, choose}
use Rattle.rules.specs.Word.{bit, common, union, without, single}
use Rattle.rules.specs.Over.{join_of, count_below, sum_over}
use Rattle.rules.specs.Shared.{start_label}
use Rattle.rules.specs.Scan.{Scan, scan_at, look, scan_of, all_looks}
use Rattle.rules.proofs.Tests.{and_of, and_left, and_right, or_at}
use Rattle.rules.proofs.Words.{bit_common, bit_union, bit_below, common_lt}
use Rattle.rules.proofs.Scans.{Turn, turn_then, turn_where, sum_eq, count_eq, count_ones, Adders, adders_told, others_ones, all_ones}
use Rattle.words.specs.Rows.{row_length, cell, both_ways}
use Rattle.scans.specs.Pairs.{word_at, row_looks, before_last, with_last, Alike, Parted}
use Rattle.scans.proofs.Sets.{Has, join_at, join_of_lem, union_left, union_right, less_more, less_apart}
use Rattle.scans.proofs.Looks.{words_alike, word_plain, cell_column, looks_turn, turn_all, last_none, last_some}
use Rattle.scans.proofs.RowLoops.{row_takes, row_turn, row_part}

-- ---- the three parts in a row

-- of an effect that adds both, nothing is left behind the looks at those
pub ones_parted : (live mates : List ℕ) (lower upper both : ℕ) {left looked : ℕ} → lower < 2 ^ row_length → ((v : ℕ) → So (bit v lower) → cell mates v v ≡ get_or live v 0)
    → scan_of row_length (common lower upper) (λ i. look (word_at live 0 1 i)) (scan_at both 0) ≡ scan_at left looked → Parted mates lower upper left
ones_parted live mates lower upper both {left} small own e v t u =
    ap₂ (λ (x y : ℕ). common x y) (sym (ap (λ (s : Scan). s.left) e)
    ∙ (looks_turn row_length (common lower upper) (word_at live 0 1) (common_lt row_length upper small)).takes (scan_at both 0)) (own v t)
    ∙ less_apart both (join_of row_length (common lower upper) (word_at live 0 1)) (get_or live v 0) (λ s b.
    join_of_lem s (common lower upper) (word_at live 0 1) (bit_below small t) (bit_common v lower upper ∙ and_of t u) (sym (ap (bit s) (word_plain live v)) ∙ b))

pub parts_are : (live mates r : List ℕ) (lower upper p q both : ℕ) {l k l' k' l'' k'' : ℕ}
    → scan_of row_length (common lower upper) (λ i. look (word_at live 0 1 i)) (scan_at both 0) ≡ scan_at l k
    → scan_of row_length lower (row_looks mates r upper q) (scan_at l k) ≡ scan_at l' k'
    → scan_of row_length upper (λ i. look (word_at r p row_length i)) (scan_at l' k') ≡ scan_at l'' k''
    → before_last live mates r lower upper p q both ≡ scan_at l'' k''
unfolding before_last
parts_are live mates r lower upper p q both {l' = l'} {k' = k'} e e' e'' =
    ap (λ (s : Scan). scan_of row_length upper (λ w. look (cell r w p)) (scan_of row_length lower (row_looks mates r upper q) s))
    (words_alike row_length (common lower upper) (scan_at both 0) (word_plain live) ∙ e)
    ∙ ap (scan_of row_length upper (λ w. look (cell r w p))) e'
    ∙ words_alike row_length upper (scan_at l' k') (cell_column r p) ∙ e''

-- ---- how many looks there are

-- one more for each index at which the test holds
sum_ones : (n : ℕ) (c : ℕ → Bool) (f : ℕ → ℕ) → sum_over n (λ i. choose (c i) (f i + 1) 0) ≡ sum_over n (λ i. choose (c i) (f i) 0) + count_below n c
unfolding sum_over count_below choose
sum_ones zero c f = refl
sum_ones (suc n) c f = go (c n) _ _ _ (f n) (sum_ones n c f)
  where
    go : (b : Bool) (x y k m : ℕ) → x ≡ y + k → x + choose b (m + 1) 0 ≡ y + choose b m 0 + (k + choose b 1 0)
    go true x y k m e = omega arith
    go false x y k m e = omega arith

-- of a scan that does not end early, without the last one
abbrev pub full_looks : ℕ → ℕ → ℕ
full_looks lower upper = ones (common lower upper) + sum_over row_length (λ v. choose (bit v lower) (ones (without upper (single v)) + 1) 0) + ones upper

two : ℕ → ℕ → ℕ → ℕ
two a b zero = a
two a b (suc i) = b

-- the vertices and pairs of two sets of effects, by the law of the rules
pub effects_looks : (a b : ℕ) → a < 2 ^ row_length → b < 2 ^ row_length
    → ones (common a b) + sum_over row_length (λ v. choose (bit v a) (ones (without b (single v))) 0) ≡ ones a * ones b
unfolding all_looks two
effects_looks a b ha hb =
    sym (ap₂ ◌+◌
    (count_eq row_length _ (λ v. bit v (common a b)) (λ v l. sym (bit_common v a b ∙ ap₂ ◌and◌ (A.are v l) (B.are v l)))
    ∙ count_ones row_length (common a b) (common_lt row_length b ha))
    (sum_eq row_length _ _ (λ v l. ap₂ (λ (t : Bool) (x : ℕ). choose t x 0) (sym (A.are v l)) (others_ones row_length adds [] 0 1 a b A B v))))
    ∙ all_ones row_length adds [] 0 1 a b A B
  where
    adds : ℕ → ℕ
    adds = start_label 2 (two a b)

    A : Adders row_length adds 0 a
    A = adders_told row_length 2 (two a b) 0 (omega arith) ha

    B : Adders row_length adds 1 b
    B = adders_told row_length 2 (two a b) 1 (omega arith) hb

-- with the last one: each that adds the one proposition with each that adds the other
full_looks_lem : (a b : ℕ) → a < 2 ^ row_length → b < 2 ^ row_length → suc (full_looks a b) ≡ (ones a + 1) * (ones b + 1)
full_looks_lem a b ha hb = omega (
  arith,
  effects_looks a b ha hb,
  sum_ones row_length (λ v. bit v a) (λ v. ones (without b (single v))),
  count_ones row_length a ha,
  add-mul (ones a) 1 (ones b + 1),
  mul-add (ones a) (ones b) 1,
)

-- and they are not too many
pub sizes_few : (a b : ℕ) {x y : ℕ} → a < 2 ^ row_length → b < 2 ^ row_length → x ≡ ones a + 1 → y ≡ ones b + 1 → x * y ≤ 1089
sizes_few a b {x} {y} ha hb ex ey =
    let hx : x ≤ 33 = omega (arith, ones-le row_length a ha) in
    let hy : y ≤ 33 = omega (arith, ones-le row_length b hb) in
    mul-le-mul hx hy

-- ---- what the whole scan takes away

abbrev pub pair_takes : List ℕ → List ℕ → List ℕ → ℕ → ℕ → ℕ → ℕ → ℕ
pair_takes live mates r lower upper p q =
    union (union (join_of row_length (common lower upper) (λ v. get_or live v 0)) (join_of row_length lower (row_takes mates r upper q)))
    (join_of row_length upper (λ w. cell r w p))

module _ (live mates r : List ℕ) (lower upper p q : ℕ) (hl : lower < 2 ^ row_length) (hu : upper < 2 ^ row_length) where
  rows_turn : Turn (scan_of row_length lower (row_looks mates r upper q)) (join_of row_length lower (row_takes mates r upper q))
      (sum_over row_length (λ v. choose (bit v lower) (ones (without upper (single v)) + 1) 0))
  unfolding scan_of join_of
  rows_turn = turn_where row_length (λ v. bit v lower) (row_looks mates r upper q) (row_takes mates r upper q) (λ v. ones (without upper (single v)) + 1)
      (λ v l. row_turn mates r upper q v hu)

  whole_turn : Turn (λ s. scan_of row_length upper (λ w. look (cell r w p)) (scan_of row_length lower (row_looks mates r upper q)
      (scan_of row_length (common lower upper) (λ v. look (get_or live v 0)) s))) (pair_takes live mates r lower upper p q) (full_looks lower upper)
  whole_turn = turn_then
      (turn_then (looks_turn row_length (common lower upper) (λ v. get_or live v 0) (common_lt row_length upper hl)) rows_turn)
      (looks_turn row_length upper (λ w. cell r w p) hu)

  -- 'none where the labels share no state'
  pub pair_none : (both : ℕ) → both ≡ 0 → 0 ≡ with_last (before_last live mates r lower upper p q both)
  unfolding before_last
  pair_none both e = let stays : before_last live mates r lower upper p q both ≡ scan_at both 0 = whole_turn.ends (scan_at both 0) e in
      sym (ap with_last stays ∙ last_none (scan_at both 0) e)

  -- where something is left for the last look, all were made
  pub pair_all : (both : ℕ) → (without both (pair_takes live mates r lower upper p q) ≡ 0 → ⊥)
      → (ones lower + 1) * (ones upper + 1) ≡ with_last (before_last live mates r lower upper p q both)
  unfolding before_last
  pair_all both some =
      let all : before_last live mates r lower upper p q both ≡ scan_at (without both (pair_takes live mates r lower upper p q)) (0 + full_looks lower upper) =
      turn_all whole_turn (scan_at both 0) some in
      sym (ap with_last all ∙ last_some (scan_at (without both (pair_takes live mates r lower upper p q)) (0 + full_looks lower upper)) some
      ∙ omega (arith, full_looks_lem lower upper hl hu))

-- all of that is in the two cells of `spare`
module _ {adders live mates r besides spare : List ℕ} (A : Alike adders live mates r besides spare) (p q : ℕ) (hp : p < length adders) (hq : q < length adders) where
  -- a row of p with q, and one of q with p
  in_lower : (s v : ℕ) → v < row_length → So (bit v (get_or adders p 0)) → So (bit s (union (cell r v q) (join_of row_length (get_or adders q 0) (cell mates v))))
      → So (bit s (union (cell spare p q) (cell spare q p)))
  in_lower s v l t u = union_left s (cell spare p q) (cell spare q p)
      (ap (bit s) (A.joined p q hp hq) ∙ join_of_lem s (get_or adders p 0) (λ v. cell besides v q) l t (ap (bit s) (A.beside v p q hp hq t) ∙ u))

  in_upper : (s w : ℕ) → w < row_length → So (bit w (get_or adders q 0)) → So (bit s (cell r w p)) → So (bit s (union (cell spare p q) (cell spare q p)))
  in_upper s w l t u = union_right s (cell spare p q) (cell spare q p)
      (ap (bit s) (A.joined q p hq hp) ∙ join_of_lem s (get_or adders q 0) (λ v. cell besides v p) l t
      (ap (bit s) (A.beside w q p hq hp t) ∙ union_left s (cell r w p) (join_of row_length (get_or adders p 0) (cell mates w)) u))

  takes_in : (s : ℕ) → So (bit s (pair_takes live mates r (get_or adders p 0) (get_or adders q 0) p q)) → So (bit s (union (cell spare p q) (cell spare q p)))
  takes_in s t = ⊎_elim
      (λ x. ⊎_elim
      (λ y. let h : Has s row_length (common (get_or adders p 0) (get_or adders q 0)) (λ v. get_or live v 0) = join_at (λ v. get_or live v 0) y in
      let b = sym (bit_common h.i (get_or adders p 0) (get_or adders q 0)) ∙ h.among in
      in_lower s h.i h.below (and_left _ b) (union_right s (cell r h.i q) (join_of row_length (get_or adders q 0) (cell mates h.i))
      (join_of_lem s (get_or adders q 0) (cell mates h.i) h.below (and_right _ b) (ap (bit s) (A.own h.i p hp (and_left _ b)) ∙ h.holds))))
      (λ y. let h : Has s row_length (get_or adders p 0) (row_takes mates r (get_or adders q 0) q) = join_at (row_takes mates r (get_or adders q 0) q) y in
      in_lower s h.i h.below h.among (row_part mates r (get_or adders q 0) q h.i s h.holds))
      (or_at (sym (bit_union s _ _) ∙ x)))
      (λ x. let h : Has s row_length (get_or adders q 0) (λ w. cell r w p) = join_at (λ w. cell r w p) x in in_upper s h.i h.below h.among h.holds)
      (or_at (sym (bit_union s _ _) ∙ t))

  pub shown_all : (both shown : ℕ) {x y : ℕ} → get_or adders p 0 < 2 ^ row_length → get_or adders q 0 < 2 ^ row_length → x ≡ ones (get_or adders p 0) + 1 → y ≡ ones (get_or adders q 0) + 1
      → shown ≡ both_ways spare p q → (without both shown ≡ 0 → ⊥) → x * y ≡ with_last (before_last live mates r (get_or adders p 0) (get_or adders q 0) p q both)
  unfolding both_ways
  shown_all both shown hl hu ex ey e some =
      ap₂ ◌*◌ ex ey ∙ pair_all live mates r (get_or adders p 0) (get_or adders q 0) p q hl hu both (λ z.
      some (ap (without both) e ∙ less_more both (pair_takes live mates r (get_or adders p 0) (get_or adders q 0) p q) (union (cell spare p q) (cell spare q p)) takes_in z))
