-- A square of bits turned round, stage by stage.
-- Assumes nothing.
use Prim.Native.Nat.{ℕ, zero, suc, ◌+◌, ◌-◌, ◌*◌, ◌/◌, ◌%◌, ◌^◌, ◌≤◌, ◌<◌}
use mathlib.Core.Path.{◌≡◌, refl, sym, ap, ap₂, subst, ◌∙◌}
use mathlib.Core.Bool.{Bool, true, false, So, false≢true}
use mathlib.Core.Logic.{◌⊎◌, inl, inr, ⊎_elim}
use mathlib.Core.List.{List, [], ◌∷◌}
use native.Mathlib.Nat.{add-zero, mod-lt, zero-lt-suc}
use native.Mathlib.Omega.{arith}
use lib.Bits.{bit_and, bit_xor, and_mask, and_block}
use lib.Pow.{pow_pos, shl-shr}
use lib.ListN.{length, get_or, set, length-set}
use lib.Seq.{get_or-set_same, get_or-set_other}
use Rattle.rules.specs.Test.{◌and◌, fails, same, below, choose}
use Rattle.rules.specs.Word.{bit, first}
use Rattle.rules.specs.Over.{all_below}
use Rattle.rules.specs.Lists.{list_over}
use Rattle.rules.specs.Shared.{start_label}
use Rattle.rules.proofs.Overs.{all_at}
use Rattle.rules.proofs.Tests.{choose_held, choose_failed, and_of, and_left, and_right, and_true, fails_of, fails_at, holds_or, test_eq, same_of, same_at, below_of, below_at, below_fails}
use Rattle.rules.proofs.Layers.{list_over_eq}
use Rattle.rules.proofs.Members.{bit_start_label, start_label_lt}
use Rattle.rules.proofs.Words.{differ, bit_xor_lem, bit_common, bit_first, bit_shift, ext}
use Rattle.words.specs.Rows.{columns_of}
use Rattle.words.specs.Squares.{pair_count, change_of, upper_of, lower_of, swap_pair, upper_row, pair_of, half, swap_pairs, in_pairs, is_pair, in_half, make_squares}
use Rattle.words.specs.Width.{prop_width}

-- ---- bits of a symmetric difference and of shifts

differ_back : (x y : Bool) → differ x (differ x y) ≡ y
unfolding fails
differ_back true true = refl
differ_back true false = refl
differ_back false y = refl

differ_turn : (x y : Bool) → differ x (differ y x) ≡ y
unfolding fails
differ_turn true true = refl
differ_turn true false = refl
differ_turn false true = refl
differ_turn false false = refl

differ_none : (x : Bool) → differ x false ≡ x
unfolding fails
differ_none true = refl
differ_none false = refl

none : {b : Bool} → So (fails b) → b ≡ false
none t = test_eq (λ u. absurd (fails_at t u)) (λ u. absurd (false≢true u))

and_none : (a b : Bool) → So (fails b) → (a and b) ≡ false
and_none a b t = none (fails_of (λ u. fails_at t (and_right a u)))

-- a word shifted up
bit_up : (x k i : ℕ) → bit (k + i) (x * 2 ^ k) ≡ bit i x
bit_up x k i = sym (bit_shift (x * 2 ^ k) k i) ∙ ap (bit i) (shl-shr x k)

-- cut to n bits
bit_cut : (n x i : ℕ) → i < n → bit i (x % 2 ^ n) ≡ bit i x
bit_cut n x i h =
    ap (bit i) (sym (and_mask x n)) ∙ bit_common i x (first n) ∙ ap (λ (b : Bool). bit i x and b) (bit_first i n ∙ below_of h) ∙ and_true

and_up : (a b k : ℕ) → bit_and a b * 2 ^ k ≡ bit_and (a * 2 ^ k) (b * 2 ^ k)
and_up a b k =
    sym (ap₂ bit_and (sym (add-zero (a * 2 ^ k))) (sym (add-zero (b * 2 ^ k))) ∙ and_block k a b 0 0 (pow_pos k) (pow_pos k) ∙ add-zero _)

-- ---- where a bit comes from in a stage: the halves of row and column change places

give : ℕ → ℕ → ℕ → ℕ
give w i j = i - half w i * w + half w j * w

halves : (w i : ℕ) → (half w i ≡ 0) ⊎ (half w i ≡ 1)
unfolding half
halves w i = go (i / w % 2) (mod-lt (i / w) (zero-lt-suc 1))
  where
    go : (d : ℕ) → d < 2 → (d ≡ 0) ⊎ (d ≡ 1)
    go zero h = inl refl
    go (suc zero) h = inr refl
    go (suc (suc d)) h = absurd (omega arith)

-- ---- a stage

module _ (w low : ℕ) (fit : So (make_squares w low)) where
  pub some_width : 0 < w
  unfolding make_squares
  some_width = below_at (and_left _ fit)

  pair : {k : ℕ} → k < pair_count → So (is_pair w k)
  unfolding make_squares
  pair h = all_at _ (and_left _ (and_right _ fit)) h

  pub pair_inside : {k : ℕ} → k < pair_count → upper_row w k + w < prop_width
  unfolding is_pair
  pair_inside h = below_at (and_left _ (pair h))

  upper_pair : {k : ℕ} → k < pair_count → pair_of w (upper_row w k) ≡ k
  unfolding is_pair
  upper_pair h = same_at (and_left _ (and_right _ (pair h)))

  lower_pair : {k : ℕ} → k < pair_count → pair_of w (upper_row w k + w) ≡ k
  unfolding is_pair
  lower_pair h = same_at (and_left _ (and_right _ (and_right _ (pair h))))

  upper_half : {k : ℕ} → k < pair_count → half w (upper_row w k) ≡ 0
  unfolding is_pair
  upper_half h = same_at (and_left _ (and_right _ (and_right _ (and_right _ (pair h)))))

  lower_half : {k : ℕ} → k < pair_count → half w (upper_row w k + w) ≡ 1
  unfolding is_pair
  lower_half h = same_at (and_right _ (and_right _ (and_right _ (and_right _ (pair h)))))

  row : {i : ℕ} → i < prop_width → So (in_pairs w i)
  unfolding make_squares
  row h = all_at _ (and_left _ (and_right _ (and_right _ fit))) h

  column : {j : ℕ} → j < prop_width → So (in_half w low j)
  unfolding make_squares
  column h = all_at _ (and_right _ (and_right _ (and_right _ fit))) h

  -- in one half or the other
  in_low : {j : ℕ} → j < prop_width → half w j ≡ 0 → So (bit j low and fails (bit j (low * 2 ^ w)))
  unfolding in_half
  in_low h e = sym (choose_held _ (same_of e)) ∙ column h

  in_high : {j : ℕ} → j < prop_width → half w j ≡ 1 → So (fails (bit j low) and bit j (low * 2 ^ w) and fails (below j w))
  unfolding in_half
  in_high {j} h e = sym (choose_failed (same (half w j) 0) _ (fails_of (λ t. omega (arith, e, same_at t)))) ∙ column h

  -- what is exchanged, bit by bit
  bit_change : (x y j : ℕ) → bit j (change_of w low x y) ≡ (differ (bit (w + j) x) (bit j y) and bit j low)
  unfolding change_of
  bit_change x y j =
      bit_common j (bit_xor (x / 2 ^ w) y) low
      ∙ ap (λ (b : Bool). b and bit j low) (bit_xor_lem j (x / 2 ^ w) y ∙ ap (λ (b : Bool). differ b (bit j y)) (bit_shift x w j))

  bit_change_up : (x y j : ℕ) → j < prop_width
      → bit j (change_of w low x y * 2 ^ w % 2 ^ prop_width) ≡ (bit j (bit_xor (x / 2 ^ w) y * 2 ^ w) and bit j (low * 2 ^ w))
  unfolding change_of
  bit_change_up x y j h =
      bit_cut prop_width (change_of w low x y * 2 ^ w) j h ∙ ap (bit j) (and_up (bit_xor (x / 2 ^ w) y) low w)
      ∙ bit_common j (bit_xor (x / 2 ^ w) y * 2 ^ w) (low * 2 ^ w)

  module _ (x y j : ℕ) (h : j < prop_width) (e : half w j ≡ 0) where
    upper_low : bit j (upper_of w low x y) ≡ bit j x
    unfolding upper_of
    upper_low =
        bit_xor_lem j x (change_of w low x y * 2 ^ w % 2 ^ prop_width)
        ∙ ap (differ (bit j x)) (bit_change_up x y j h ∙ and_none _ _ (and_right _ (in_low h e))) ∙ differ_none (bit j x)

    lower_low : bit j (lower_of w low x y) ≡ bit (w + j) x
    unfolding lower_of
    lower_low =
        bit_xor_lem j y (change_of w low x y)
        ∙ ap (differ (bit j y)) (bit_change x y j ∙ ap (λ (b : Bool). differ (bit (w + j) x) (bit j y) and b) (and_left _ (in_low h e)) ∙ and_true)
        ∙ differ_turn (bit j y) (bit (w + j) x)

  lower_high : (x y j : ℕ) → j < prop_width → half w j ≡ 1 → bit j (lower_of w low x y) ≡ bit j y
  unfolding lower_of
  lower_high x y j h e =
      bit_xor_lem j y (change_of w low x y)
      ∙ ap (differ (bit j y)) (bit_change x y j ∙ and_none _ _ (and_left _ (in_high h e))) ∙ differ_none (bit j y)

  upper_high : (x y m : ℕ) → w + m < prop_width → half w (w + m) ≡ 1 → bit (w + m) (upper_of w low x y) ≡ bit m y
  unfolding upper_of
  upper_high x y m h e =
      let u = bit_xor (x / 2 ^ w) y in
      bit_xor_lem (w + m) x (change_of w low x y * 2 ^ w % 2 ^ prop_width)
      ∙ ap (differ (bit (w + m) x))
      (bit_change_up x y (w + m) h
      ∙ ap₂ ◌and◌ (bit_up u w m ∙ bit_xor_lem m (x / 2 ^ w) y ∙ ap (λ (b : Bool). differ b (bit m y)) (bit_shift x w m)) (and_left _ (and_right _ (in_high h e)))
      ∙ and_true)
      ∙ differ_back (bit (w + m) x) (bit m y)

  -- ---- the rows after k pairs: those of the pairs so far are new

  pub swaps_length : (k : ℕ) (rows : List ℕ) → length (swap_pairs w low k rows) ≡ length rows
  unfolding swap_pairs swap_pair
  swaps_length zero rows = refl
  swaps_length (suc k) rows = length-set (set (swap_pairs w low k rows) (upper_row w k) _) (upper_row w k + w) _
      ∙ length-set (swap_pairs w low k rows) (upper_row w k) _ ∙ swaps_length k rows

  module _ (rows : List ℕ) (long : length rows ≡ prop_width) where
    new_row : ℕ → ℕ
    new_row i = choose (same (half w i) 0) (upper_of w low (get_or rows i 0) (get_or rows (i + w) 0)) (lower_of w low (get_or rows (i - w) 0) (get_or rows i 0))

    new_upper : (i : ℕ) → half w i ≡ 0 → new_row i ≡ upper_of w low (get_or rows i 0) (get_or rows (i + w) 0)
    unfolding new_row
    new_upper i e = choose_held _ (same_of e)

    new_lower : (i : ℕ) → half w i ≡ 1 → new_row i ≡ lower_of w low (get_or rows (i - w) 0) (get_or rows i 0)
    unfolding new_row
    new_lower i e = choose_failed (same (half w i) 0) _ (fails_of (λ t. omega (arith, e, same_at t)))

    other_pair : (i k : ℕ) → i < prop_width → (i ≡ upper_row w k → ⊥) → (i ≡ upper_row w k + w → ⊥) → pair_of w i ≡ k → ⊥
    unfolding in_pairs
    other_pair i k h f g e =
        let at : upper_row w (pair_of w i) + half w i * w ≡ i = same_at (and_left _ (row h)) in
        ⊎_elim
        (λ d. f (sym at ∙ ap₂ (λ (x d : ℕ). upper_row w x + d * w) e d ∙ omega arith))
        (λ d. g (sym at ∙ ap₂ (λ (x d : ℕ). upper_row w x + d * w) e d ∙ omega arith))
        (halves w i)

    -- one pair more
    module _ (k : ℕ) (in_k : k < pair_count) (r : List ℕ) (r_long : length r ≡ prop_width)
        (so_far : (i : ℕ) → i < prop_width → get_or r i 0 ≡ choose (below (pair_of w i) k) (new_row i) (get_or rows i 0)) where
      abbrev p : ℕ
      p = upper_row w k

      abbrev Next : ℕ → Type 0
      Next i = get_or (swap_pair w low p r) i 0 ≡ choose (below (pair_of w i) (suc k)) (new_row i) (get_or rows i 0)

      old : (i : ℕ) → i < prop_width → pair_of w i ≡ k → get_or r i 0 ≡ get_or rows i 0
      old i l e = so_far i l ∙ choose_failed (below (pair_of w i) k) (new_row i) (fails_of (λ t. omega (arith, e, below_at t)))

      new : (i : ℕ) → pair_of w i ≡ k → choose (below (pair_of w i) (suc k)) (new_row i) (get_or rows i 0) ≡ new_row i
      new i e = choose_held _ (below_of (omega (arith, e)))

      at_lower : Next (p + w)
      unfolding swap_pair
      at_lower =
          let back : p ≡ (p + w) - w = omega arith in
          get_or-set_same (set r p _) (p + w) _ 0 (omega (arith, length-set r p (upper_of w low (get_or r p 0) (get_or r (p + w) 0)), pair_inside in_k))
          ∙ ap₂ (lower_of w low) (old p (omega (arith, pair_inside in_k)) (upper_pair in_k) ∙ ap (λ (x : ℕ). get_or rows x 0) back)
          (old (p + w) (pair_inside in_k) (lower_pair in_k))
          ∙ sym (new (p + w) (lower_pair in_k) ∙ new_lower (p + w) (lower_half in_k))

      at_upper : Next p
      unfolding swap_pair
      at_upper =
          get_or-set_other (set r p _) (p + w) p _ 0 (λ e. omega (arith, e, some_width))
          ∙ get_or-set_same r p _ 0 (omega (arith, pair_inside in_k))
          ∙ ap₂ (upper_of w low) (old p (omega (arith, pair_inside in_k)) (upper_pair in_k)) (old (p + w) (pair_inside in_k) (lower_pair in_k))
          ∙ sym (new p (upper_pair in_k) ∙ new_upper p (upper_half in_k))

      elsewhere : (i : ℕ) → i < prop_width → (i ≡ p → ⊥) → (i ≡ p + w → ⊥) → Next i
      unfolding swap_pair
      elsewhere i l f g =
          get_or-set_other (set r p _) (p + w) i _ 0 g ∙ get_or-set_other r p i _ 0 f ∙ so_far i l
          ∙ ap (λ (b : Bool). choose b (new_row i) (get_or rows i 0)) (test_eq
          (λ t. below_of (omega (arith, below_at t)))
          (λ t. ⊎_elim (λ u. u) (λ u. absurd (other_pair i k l f g (omega (arith, below_at t, below_fails u)))) (holds_or (below (pair_of w i) k))))

      pair_more : (i : ℕ) → i < prop_width → Next i
      pair_more i l = ⊎_elim
          (λ t. subst Next (sym (same_at t)) at_lower)
          (λ f. ⊎_elim
          (λ t. subst Next (sym (same_at t)) at_upper)
          (λ g. elsewhere i l (λ e. fails_at g (same_of e)) (λ e. fails_at f (same_of e)))
          (holds_or (same i p)))
          (holds_or (same i (p + w)))

    after : (k : ℕ) → k ≤ pair_count → (i : ℕ) → i < prop_width → get_or (swap_pairs w low k rows) i 0 ≡ choose (below (pair_of w i) k) (new_row i) (get_or rows i 0)
    unfolding swap_pairs
    after zero h i l = sym (choose_failed (below (pair_of w i) 0) (new_row i) (fails_of (λ t. omega (arith, below_at t))))
    after (suc k) h i l = pair_more k (omega arith) (swap_pairs w low k rows) (swaps_length k rows ∙ long) (after k (omega arith)) i l

    whole : (i : ℕ) → i < prop_width → get_or (swap_pairs w low pair_count rows) i 0 ≡ new_row i
    unfolding in_pairs
    whole i l = after pair_count (omega arith) i l ∙ choose_held _ (and_right _ (row l))

    -- where a bit comes from
    module _ (i j : ℕ) (hi : i < prop_width) (hj : j < prop_width) where
      came : (a b x y : ℕ) → half w i ≡ a → half w j ≡ b → y ≡ j - b * w + a * w → x ≡ i - a * w + b * w
          → bit y (get_or rows x 0) ≡ bit (give w j i) (get_or rows (give w i j) 0)
      unfolding give
      came a b x y d e p q =
          ap₂ (λ (y x : ℕ). bit y (get_or rows x 0)) p q
          ∙ ap₂ (λ (a b : ℕ). bit (j - b * w + a * w) (get_or rows (i - a * w + b * w) 0)) (sym d) (sym e)

      far : {i : ℕ} → i < prop_width → half w i ≡ 1 → w ≤ i
      far h d = below_fails (and_right _ (and_right _ (in_high h d)))

      by_halves : (half w i ≡ 0) ⊎ (half w i ≡ 1) → (half w j ≡ 0) ⊎ (half w j ≡ 1) → bit j (new_row i) ≡ bit (give w j i) (get_or rows (give w i j) 0)
      by_halves (inl d) (inl e) = ap (bit j) (new_upper i d) ∙ upper_low _ _ j hj e ∙ came 0 0 i j d e (omega arith) (omega arith)
      by_halves (inl d) (inr e) =
          let q : w + (j - w) ≡ j = omega (arith, far hj e) in
          ap (bit j) (new_upper i d) ∙ ap (λ (y : ℕ). bit y (upper_of w low (get_or rows i 0) (get_or rows (i + w) 0))) (sym q)
          ∙ upper_high _ _ (j - w) (omega (arith, q)) (ap (half w) q ∙ e) ∙ came 0 1 (i + w) (j - w) d e (omega arith) (omega arith)
      by_halves (inr d) (inl e) = ap (bit j) (new_lower i d) ∙ lower_low _ _ j hj e ∙ came 1 0 (i - w) (w + j) d e (omega arith) (omega arith)
      by_halves (inr d) (inr e) =
          ap (bit j) (new_lower i d) ∙ lower_high _ _ j hj e ∙ came 1 1 i j d e (omega (arith, far hj e)) (omega (arith, far hi d))

      stage_bit : bit j (get_or (swap_pairs w low pair_count rows) i 0) ≡ bit (give w j i) (get_or rows (give w i j) 0)
      stage_bit = ap (bit j) (whole i hi) ∙ by_halves (halves w i) (halves w j)

-- ---- all stages: they are listed with the last one first

-- w ones, w zeros, w ones ..
low_of : ℕ → ℕ
low_of w = (2 ^ prop_width - 1) / (2 ^ w + 1)

-- the widths make squares
fine : List ℕ → Bool
fine [] = true
fine (w ∷ ws) = make_squares w (low_of w) and fine ws

swap_all : List ℕ → List ℕ → List ℕ
swap_all [] rows = rows
swap_all (w ∷ ws) rows = swap_pairs w (low_of w) pair_count (swap_all ws rows)

-- column j of row i came from column b of row a
comes : List ℕ → ℕ → ℕ → ℕ → ℕ → Bool
comes [] i j a b = same i a and same j b
comes (w ∷ ws) i j a b = (below i prop_width and below j prop_width) and comes ws (give w i j) (give w j i) a b

all_length : (ws : List ℕ) → So (fine ws) → (rows : List ℕ) → length (swap_all ws rows) ≡ length rows
unfolding swap_all fine
all_length [] f rows = refl
all_length (w ∷ ws) f rows = swaps_length w (low_of w) (and_left _ f) pair_count (swap_all ws rows) ∙ all_length ws (and_right _ f) rows

all_bits : (ws : List ℕ) → So (fine ws) → (rows : List ℕ) → length rows ≡ prop_width → (i j a b : ℕ) → So (comes ws i j a b)
    → bit j (get_or (swap_all ws rows) i 0) ≡ bit b (get_or rows a 0)
unfolding swap_all fine comes
all_bits [] f rows long i j a b t = ap₂ (λ (y x : ℕ). bit y (get_or rows x 0)) (same_at (and_right _ t)) (same_at (and_left _ t))
all_bits (w ∷ ws) f rows long i j a b t =
    stage_bit w (low_of w) (and_left _ f) (swap_all ws rows) (all_length ws (and_right _ f) rows ∙ long) i j
    (below_at (and_left _ (and_left _ t))) (below_at (and_right _ (and_left _ t)))
    ∙ all_bits ws (and_right _ f) rows long (give w i j) (give w j i) a b (and_right _ t)

abbrev widths : List ℕ
widths = 1 ∷ 2 ∷ 4 ∷ 8 ∷ 16 ∷ []

-- the stages of the code, by computing it
pub squares : So (make_squares 16 0x0000ffff) × So (make_squares 8 0x00ff00ff) × So (make_squares 4 0x0f0f0f0f) × So (make_squares 2 0x33333333) × So (make_squares 1 0x55555555)
unfolding make_squares all_below is_pair in_pairs in_half upper_row pair_of half ◌and◌ fails same below choose bit
squares = (refl, refl, refl, refl, refl)

-- through them each bit comes from the place across, by computing it
all_turn : So (all_below prop_width (λ i. all_below prop_width (λ j. comes widths i j j i)))
unfolding comes give half all_below ◌and◌ same below
all_turn = refl

pub turned_bits : (rows : List ℕ) {a b c d rows' : List ℕ} → length rows ≡ prop_width → a ≡ swap_pairs 16 0x0000ffff pair_count rows → b ≡ swap_pairs 8 0x00ff00ff pair_count a
    → c ≡ swap_pairs 4 0x0f0f0f0f pair_count b → d ≡ swap_pairs 2 0x33333333 pair_count c → rows' ≡ swap_pairs 1 0x55555555 pair_count d
    → (i j : ℕ) → i < prop_width → j < prop_width → bit j (get_or rows' i 0) ≡ bit i (get_or rows j 0)
unfolding swap_all fine low_of
turned_bits rows long ea eb ec ed e i j hi hj =
    ap (λ (l : List ℕ). bit j (get_or l i 0)) (e ∙ ap (swap_pairs 1 0x55555555 pair_count) (ed ∙ ap (swap_pairs 2 0x33333333 pair_count)
    (ec ∙ ap (swap_pairs 4 0x0f0f0f0f pair_count) (eb ∙ ap (swap_pairs 8 0x00ff00ff pair_count) ea))))
    ∙ all_bits widths (and_of squares.4 (and_of squares.3 (and_of squares.2 (and_of squares.1 (and_of squares.0 refl))))) rows long i j j i
    (all_at (λ j. comes widths i j j i) (all_at _ all_turn hi) hj)

-- rows that are so turned are the columns
pub columns_turned : (n : ℕ) (sets turned : List ℕ) → n ≤ prop_width → length sets ≡ prop_width → ((p : ℕ) → get_or turned p 0 < 2 ^ prop_width)
    → ((i j : ℕ) → i < prop_width → j < prop_width → bit j (get_or turned i 0) ≡ bit i (get_or sets j 0)) → list_over n (λ p. get_or turned p 0) ≡ columns_of n sets
unfolding columns_of
columns_turned n sets turned few long fit bits =
    list_over_eq (λ p l.
    ext {n = prop_width} (fit p) (start_label_lt prop_width (λ i. get_or sets i 0) p)
    (λ j h. bits p j (omega arith) h ∙ sym (bit_start_label (λ i. get_or sets i 0) p h))
    ∙ ap (λ (m : ℕ). start_label m (λ i. get_or sets i 0) p) (sym long))
