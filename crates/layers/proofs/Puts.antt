-- Rows of mutex words, one behind the other.
-- Assumes nothing.
use Prim.Native.Nat.{ℕ, zero, suc, ◌+◌, ◌-◌, ◌*◌, ◌/◌, ◌≤◌, ◌<◌}
use mathlib.Core.Path.{◌≡◌, sym, ap, ap₂, subst, ◌∙◌}
use mathlib.Core.List.{List, ◌++◌, append_assoc}
use native.Mathlib.Omega.{arith}
use native.Mathlib.Nat.{suc-mul, zero-mul, sub-zero, mul-le-mul_right, zero-add, suc-add}
use borrow.Rule.Slice.PartMut.{put_mid}
use lib.ListN.{length, get_or, take, drop, length-append, length-drop}
use lib.Seq.{ext_get_or, get_or-take, length-take-le}
use Rattle.rules.specs.Word.{common, without}
use Rattle.rules.specs.Lists.{list_over, run_over}
use Rattle.rules.specs.Layer.{pairs, size, row_of, layer_of}
use Rattle.rules.specs.Together.{layer_by}
use Rattle.rules.proofs.Layers.{length_list_over, get_d_list_over, list_over_eq, layer_eq, size_pairs, pairs_suc, length_rows, pairs_row, pairs_sub}
use Rattle.words.specs.Memory.{put_at}
use Rattle.words.specs.Rows.{row_length, cell}
use Rattle.words.proofs.Writes.{Runs, run_more, put_put, put_behind, put_part}
use Rattle.layers.specs.Write.{apart, Diagonal, effect_row, action_words}

-- ---- words that are written into a lent part

pub apart_put : (at end n own : ℕ) (w : List ℕ) {out : List ℕ} (f f' g g' : ℕ → ℕ) → end ≡ at + n → end ≤ length w
    → out ≡ list_over (length (take (end - at) (drop at w))) (λ k. without (common own (f k)) (g k)) → ((k : ℕ) → f k ≡ f' k) → ((k : ℕ) → g k ≡ g' k)
    → put_mid at (end - at) w out ≡ put_at at (list_over n (λ k. without (common own (f' k)) (g' k))) w
apart_put at end n own w {out} f f' g g' to room e ef eg =
    let size : end - at ≡ n = omega arith in
    let long : length (take (end - at) (drop at w)) ≡ n =
    ap (λ (x : ℕ). length (take x (drop at w))) size ∙ length-take-le n (drop at w) (omega (arith, length-drop at w)) in
    ap (λ (x : ℕ). put_mid at (x - at) w out) to
    ∙ put_part at n (list_over n (λ k. without (common own (f' k)) (g' k))) w out (length_list_over n _)
    (e ∙ ap (λ (x : ℕ). list_over x (λ k. without (common own (f k)) (g k))) long
    ∙ list_over_eq (λ k h. ap₂ (λ (x y : ℕ). without (common own x) y) (ef k) (eg k)))

-- ---- the pairs of n elements: p rows are written, up to `at`

module _ (n : ℕ) (labels t : List ℕ) {to p at : ℕ} {w₀ w : List ℕ} (s : Runs (row_of n (apart labels t)) to n w₀ p at w) (h : p < n) where
  pub pairs_room : to + pairs n ≤ length w₀ → at + (n - 1 - p) ≤ length w₀
  pairs_room room = omega (arith, s.here, length_rows n (apart labels t) p (omega arith), pairs_row n p h, pairs_sub n p)

  pub pairs_more : {w' : List ℕ} → to + pairs n ≤ length w₀
      → w' ≡ put_at at (list_over (n - 1 - p) (λ k. without (common (get_or labels p 0) (get_or labels (p + 1 + k) 0)) (get_or t (p * row_length + p + 1 + k) 0))) w
      → Runs (row_of n (apart labels t)) to n w₀ (p + 1) (at + (n - 1 - p)) w'
  unfolding row_of apart cell
  pairs_more room e = run_more (n - 1 - p) s h (pairs_room room) (length_list_over (n - 1 - p) _)
      (e ∙ ap (λ (l : List ℕ). put_at at l w) (list_over_eq (λ k g.
      let q : p * row_length + p + 1 + k ≡ p * row_length + (p + 1 + k) = omega arith in
      ap (λ (x : ℕ). without (common (get_or labels p 0) (get_or labels (p + 1 + k) 0)) (get_or t x 0)) q)))

-- ---- the pairs of each of a effects, with the later ones and with n propositions

module _ (n a : ℕ) (live labels mates r : List ℕ) where
  row_length_lem : (i : ℕ) → length (effect_row n a live labels mates r i) ≡ (a - 1 - i) + n
  unfolding effect_row
  row_length_lem i = length-append (list_over (a - 1 - i) _) (list_over n _) ∙ ap₂ (λ (x y : ℕ). x + y) (length_list_over (a - 1 - i) _) (length_list_over n _)

  pub rows_length_lem : (i : ℕ) → i ≤ a → length (run_over i (effect_row n a live labels mates r)) ≡ pairs a - pairs (a - i) + i * n
  unfolding run_over
  rows_length_lem zero h = let e : pairs (a - 0) ≡ pairs a = ap pairs (sub-zero a) in omega (arith, zero-mul n)
  rows_length_lem (suc i) h =
      length-append (run_over i (effect_row n a live labels mates r)) (effect_row n a live labels mates r i)
      ∙ omega (arith, rows_length_lem i (omega arith), row_length_lem i, pairs_row a i (omega arith), pairs_sub a i, suc-mul i n)

  module _ {to i at : ℕ} {w₀ w : List ℕ} (s : Runs (effect_row n a live labels mates r) to a w₀ i at w) (room : to + (pairs a + a * n) ≤ length w₀) where
    pub rows_room : i < a → at + ((a - 1 - i) + n) ≤ length w₀
    rows_room h = omega (arith, s.here, rows_length_lem i (omega arith), pairs_row a i h, pairs_sub a i, suc-mul i n, mul-le-mul_right n h)

    pub rows_more : {w₁ w' : List ℕ} → i < a
        → w₁ ≡ put_at at (list_over (a - 1 - i) (λ k. without (common (get_or live i 0) (get_or live (i + 1 + k) 0)) (get_or mates (i * row_length + i + 1 + k) 0))) w
        → w' ≡ put_at (at + (a - 1 - i)) (list_over n (λ q. without (common (get_or live i 0) (get_or labels q 0)) (get_or r (i * row_length + q) 0))) w₁
        → Runs (effect_row n a live labels mates r) to a w₀ (i + 1) (at + (a - 1 - i) + n) w'
    unfolding effect_row apart cell
    rows_more {w₁} {w'} h e₁ e₂ =
        let xs = list_over (a - 1 - i) (λ k. without (common (get_or live i 0) (get_or live (i + 1 + k) 0)) (get_or mates (i * row_length + (i + 1 + k)) 0)) in
        let ys = list_over n (λ q. without (common (get_or live i 0) (get_or labels q 0)) (get_or r (i * row_length + q) 0)) in
        let lx : length xs ≡ a - 1 - i = length_list_over (a - 1 - i) _ in
        let f₁ : w₁ ≡ put_at at xs w =
        e₁ ∙ ap (λ (l : List ℕ). put_at at l w) (list_over_eq (λ k g.
        let q : i * row_length + i + 1 + k ≡ i * row_length + (i + 1 + k) = omega arith in
        ap (λ (x : ℕ). without (common (get_or live i 0) (get_or live (i + 1 + k) 0)) (get_or mates x 0)) q)) in
        let regroup : at + ((a - 1 - i) + n) ≡ at + (a - 1 - i) + n = omega arith in
        subst (λ (x : ℕ). Runs (effect_row n a live labels mates r) to a w₀ (i + 1) x w') regroup
        (run_more ((a - 1 - i) + n) s h (rows_room h) (row_length_lem i)
        (e₂ ∙ ap₂ (λ (x : ℕ) (l : List ℕ). put_at (at + x) ys l) (sym lx) f₁ ∙ put_put at xs w (omega (arith, s.long, rows_room h)) ys))

    pub rows_end : a ≤ i → at ≡ to + (pairs a + a * n)
    unfolding pairs
    rows_end h =
        let e : i ≡ a = omega (arith, s.within) in
        sym s.here ∙ ap (λ (x : ℕ). to + length (run_over x (effect_row n a live labels mates r))) e
        ∙ omega (arith, rows_length_lem a (omega arith), none)
      where
        none : pairs (a - a) ≡ 0
        none = let z : a - a ≡ 0 = omega arith in ap pairs z

-- ---- how many words

no_pairs : (n : ℕ) → pairs (n - n) ≡ 0
unfolding pairs
no_pairs n = let e : n - n ≡ 0 = omega arith in ap (λ (x : ℕ). x * (x - 1) / 2) e

pub rows_full : (n : ℕ) (m : ℕ → ℕ → ℕ) → length (run_over n (row_of n m)) ≡ pairs n
rows_full n m = length_rows n m n (omega arith) ∙ omega (arith, no_pairs n)

rows_all : (n a : ℕ) (live labels mates r : List ℕ) → length (run_over a (effect_row n a live labels mates r)) ≡ pairs a + a * n
rows_all n a live labels mates r = rows_length_lem n a live labels mates r a (omega arith) ∙ omega (arith, no_pairs a)

-- the pairs of a + n elements
pairs_sum : (a n : ℕ) → pairs (a + n) ≡ pairs a + a * n + pairs n
pairs_sum zero n = omega (arith, zero-mul n, none, ap pairs (zero-add n))
  where
    none : pairs 0 ≡ 0
    none = no_pairs 0
pairs_sum (suc a) n =
    ap pairs (suc-add a n) ∙ pairs_suc (a + n) ∙ omega (arith, pairs_sum a n, pairs_suc a, suc-mul a n)

pub size_sum : (a n : ℕ) → size (a + n) ≡ a + n + (pairs a + a * n) + pairs n
size_sum a n = size_pairs (a + n) ∙ omega (arith, pairs_sum a n)

-- the first words of a row
pub take_row : (n : ℕ) (row : List ℕ) → n ≤ length row → take n row ≡ list_over n (λ i. get_or row i 0)
take_row n row h =
    ext_get_or 0 (take n row) _ (length-take-le n row h ∙ sym (length_list_over n _)) (λ i l.
    let k : i < n = omega (arith, length-take-le n row h) in get_or-take n row i 0 k ∙ sym (get_d_list_over _ k))

-- ---- the proposition layer

pub props_put : (n : ℕ) (labels t w₀ w₁ w₂ : List ℕ) → n ≤ length labels → size n ≤ length w₀ → Diagonal n labels t
    → w₁ ≡ put_at 0 (take n labels) w₀ → w₂ ≡ put_at n (run_over n (row_of n (apart labels t))) w₁ → w₂ ≡ put_at 0 (layer_by n (cell t)) w₀
unfolding layer_by layer_of
props_put n labels t w₀ w₁ w₂ few room diag e₁ e₂ =
    put_behind n (take n labels) (run_over n (row_of n (apart labels t))) w₀ w₁ w₂ (length-take-le n labels few)
    (omega (arith, length_rows n (apart labels t) n (omega arith), size_pairs n)) e₁ e₂
    ∙ ap (λ (l : List ℕ). put_at 0 (l ++ run_over n (row_of n (apart labels t))) w₀) (take_row n labels few)
    ∙ ap (λ (l : List ℕ). put_at 0 l w₀) (layer_eq diag (λ p q h k. word p q (omega arith) k))
  where
    word : (p q : ℕ) → p < n → q < n → apart labels t p q ≡ without (common (cell t p p) (cell t q q)) (cell t p q)
    word p q h k = unfold apart in ap₂ (λ (x y : ℕ). without (common x y) (cell t p q)) (diag p h) (diag q k)

-- ---- the action layer

pub actions_put : (n a at : ℕ) (live labels t mates r w₀ w₁ w₂ w₃ w₄ : List ℕ) → a ≤ length live → n ≤ length labels → size (a + n) ≤ length w₀
    → w₁ ≡ put_at 0 (take a live) w₀ → w₂ ≡ put_at a (take n labels) w₁
    → w₃ ≡ put_at (a + n) (run_over a (effect_row n a live labels mates r)) w₂ → at ≡ a + n + (pairs a + a * n)
    → w₄ ≡ put_at at (run_over n (row_of n (apart labels t))) w₃ → w₄ ≡ put_at 0 (action_words n a live labels t mates r) w₀
unfolding action_words
actions_put n a at live labels t mates r w₀ w₁ w₂ w₃ w₄ fa fn room e₁ e₂ e₃ ea e₄ =
    let xs = take a live in
    let ys = take n labels in
    let rows = run_over a (effect_row n a live labels mates r) in
    let last = run_over n (row_of n (apart labels t)) in
    let lx : length xs ≡ a = length-take-le a live fa in
    let ly : length ys ≡ n = length-take-le n labels fn in
    let lr : length rows ≡ pairs a + a * n = rows_all n a live labels mates r in
    let ll : length last ≡ pairs n = rows_full n (apart labels t) in
    let big : size (a + n) ≡ a + n + (pairs a + a * n) + pairs n = size_sum a n in
    let f₂ : w₂ ≡ put_at 0 (xs ++ ys) w₀ = put_behind a xs ys w₀ w₁ w₂ lx (omega arith) e₁ e₂ in
    let lxy : length (xs ++ ys) ≡ a + n = length-append xs ys ∙ ap₂ (λ (x y : ℕ). x + y) lx ly in
    let f₃ : w₃ ≡ put_at 0 ((xs ++ ys) ++ rows) w₀ = put_behind (a + n) (xs ++ ys) rows w₀ w₂ w₃ lxy (omega arith) f₂ e₃ in
    let l₃ : length ((xs ++ ys) ++ rows) ≡ at = length-append (xs ++ ys) rows ∙ ap₂ (λ (x y : ℕ). x + y) lxy lr ∙ sym ea in
    put_behind at ((xs ++ ys) ++ rows) last w₀ w₃ w₄ l₃ (omega arith) f₃ e₄
    ∙ ap (λ (l : List ℕ). put_at 0 l w₀)
    (append_assoc (xs ++ ys) rows last ∙ ap₂ (λ (x y : List ℕ). (x ++ y) ++ (rows ++ last)) (take_row a live fa) (take_row n labels fn))
