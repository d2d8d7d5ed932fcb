-- The moves close up the bits: each takes every state of S from where it stands before it to where it stands before the next. So does a shift of all that have as far to go.
-- Assumes nothing.
use mathlib.Core.Path.{◌≡◌, refl, sym, ap, ap₂, subst, ◌∙◌}
use mathlib.Core.Bool.{Bool, So}
use mathlib.Core.Logic.{⊎_elim}
use Prim.Native.Nat.{ℕ, zero, suc, ◌+◌, ◌-◌, ◌*◌, ◌/◌, ◌%◌, ◌^◌, ◌≤◌, ◌<◌}
use native.Mathlib.Nat.{zero-lt-suc, mod-lt, mod-eq_of_lt, mul-le-mul_right, lt_of_le_of_lt, zero-div}
use native.Mathlib.Omega.{arith}
use native.Mathlib.Decide.{le_ind}
use native.Mathlib.Numerals.{one-add}
use lib.Bits.{bit_xor, and_zero_r, xor_zero_r, or_zero_r, or_self}
use lib.Pow.{pow_pos, shr_mono, shr_le, split, mod-pow-add}
use Rattle.rules.specs.Test.{◌and◌, ◌or◌, fails, same, choose}
use Rattle.rules.specs.Word.{bit, common, union, without, single}
use Rattle.rules.specs.Over.{keep, join_over, any_below, count_below}
use Rattle.rules.specs.Extract.{rank, close_up}
use Rattle.rules.proofs.Tests.{and_of, and_left, and_right, or_left, or_right, or_at, fails_of, fails_at, holds_or, test_eq, same_of, same_at}
use Rattle.rules.proofs.Words.{bit_above, bit_common, bit_union, bit_without, bit_single, ext, common_lt, union_lt, without_lt, single_lt, bit_shift}
use Rattle.rules.proofs.Overs.{any_of, any_at, any_only, any_eq, bit_keep, bit_join_over, join_over_eq, join_over_lt, keep_lt}
use Rattle.rules.proofs.Extracts.{rank_in, rank_out, rank_lt}
use Rattle.words.specs.Width.{state_width}
use Rattle.extract.specs.Moves.{gap, going, most_moves, place, moving, closing}

-- ---- states that stand at places

-- those of n states that pass the test, each at its place
abbrev standing : ℕ → (ℕ → Bool) → (ℕ → ℕ) → ℕ
standing n T p = join_over n (λ s. keep (T s) (single (p s)))

module _ (n : ℕ) (T : ℕ → Bool) (p : ℕ → ℕ) where
  bit_standing : (j : ℕ) → bit j (standing n T p) ≡ any_below n (λ s. T s and same j (p s))
  bit_standing j = bit_join_over j _ (λ s l. bit_keep j (T s) (single (p s)) ∙ ap (λ (x : Bool). T s and x) (bit_single j (p s)))

  stands_of : (s j : ℕ) → s < n → So (T s) → j ≡ p s → So (bit j (standing n T p))
  stands_of s j l t e = bit_standing j ∙ any_of _ l (and_of t (same_of e))

  stands_at : (j : ℕ) → So (bit j (standing n T p)) → (s : ℕ) × (s < n) × So (T s) × (j ≡ p s)
  stands_at j t =
      let (s, l, u) = any_at (sym (bit_standing j) ∙ t) in
      (s, l, and_left _ u, same_at (and_right _ u))

  standing_lt : ((s : ℕ) → s < n → p s < n) → standing n T p < 2 ^ n
  standing_lt h = join_over_lt n _ (λ s l. keep_lt n (λ t. single_lt (h s l)))

-- One move: of the states of S, no two of which stand at one place, those that pass the test b go down by d.
module _ (n d : ℕ) (S b T : ℕ → Bool) (p q : ℕ → ℕ)
    (apart : (s u : ℕ) → So (S s) → So (S u) → p s ≡ p u → s ≡ u)
    (moves : (s : ℕ) → So (b s) → p s ≡ d + q s)
    (stays : (s : ℕ) → So (fails (b s)) → p s ≡ q s)
    (chosen : (s : ℕ) → So (T s) → So (S s)) where
  M : ℕ
  M = standing n (λ s. S s and b s) p

  -- a state that stands at a place of M goes down
  goes : (s j : ℕ) → So (T s) → j ≡ p s → So (bit j M) → So (b s)
  unfolding M
  goes s j t e m =
      let (u, l, v, g) = stands_at n (λ s. S s and b s) p j m in
      subst (λ (x : ℕ). So (b x)) (sym (apart s u (chosen s t) (and_left _ v) (sym e ∙ g))) (and_right _ v)

  there : (j : ℕ) → So ((bit j (standing n T p) and fails (bit j M)) or (bit (d + j) (standing n T p) and bit (d + j) M)) → So (bit j (standing n T q))
  unfolding M
  there j t = ⊎_elim
      (λ a.
      let (s, l, u, e) = stands_at n T p j (and_left _ a) in
      let rests : So (fails (b s)) =
      fails_of (λ v. fails_at (and_right _ a) (stands_of n (λ s. S s and b s) p s j l (and_of (chosen s u) v) e)) in
      stands_of n T q s j l u (e ∙ stays s rests))
      (λ a.
      let (s, l, u, e) = stands_at n T p (d + j) (and_left _ a) in
      let f : d + j ≡ d + q s = e ∙ moves s (goes s (d + j) u e (and_right _ a)) in
      stands_of n T q s j l u (omega arith))
      (or_at t)

  back : (j : ℕ) → So (bit j (standing n T q)) → So ((bit j (standing n T p) and fails (bit j M)) or (bit (d + j) (standing n T p) and bit (d + j) M))
  unfolding M
  back j t =
      let (s, l, u, e) = stands_at n T q j t in
      ⊎_elim
      (λ v.
      let f : d + j ≡ p s = ap (λ (x : ℕ). d + x) e ∙ sym (moves s v) in
      or_right _ (and_of (stands_of n T p s (d + j) l u f) (stands_of n (λ s. S s and b s) p s (d + j) l (and_of (chosen s u) v) f)))
      (λ v.
      let f : j ≡ p s = e ∙ sym (stays s v) in
      or_left _ (and_of (stands_of n T p s j l u f) (fails_of (λ m. fails_at v (goes s j u f m)))))
      (holds_or (b s))

  lower : (s : ℕ) → q s ≤ p s
  lower s = ⊎_elim (λ v. omega (arith, moves s v)) (λ v. omega (arith, stays s v)) (holds_or (b s))

  moved : ((s : ℕ) → s < n → p s < n) → union (without (standing n T p) M) (common (standing n T p) M / 2 ^ d) ≡ standing n T q
  moved h =
      let w : standing n T p < 2 ^ n = standing_lt n T p h in
      ext (union_lt n (without_lt n M w)
      (lt_of_le_of_lt (shr_le (common (standing n T p) M) d) (common_lt n M w)))
      (standing_lt n T q (λ s l. omega (arith, lower s, h s l)))
      (λ j l.
      bit_union j (without (standing n T p) M) (common (standing n T p) M / 2 ^ d)
      ∙ ap₂ ◌or◌ (bit_without j (standing n T p) M) (bit_shift (common (standing n T p) M) d j ∙ bit_common (d + j) (standing n T p) M)
      ∙ test_eq (there j) (back j))

-- ---- where a state stands before each move

pub mod_le : (a i : ℕ) → a % 2 ^ i ≤ a
mod_le a i = omega (arith, split a i)

-- what is left of a larger number is larger by no more than the number is
mod_rise : (a b i : ℕ) → a ≤ b → b % 2 ^ i ≤ a % 2 ^ i + (b - a)
mod_rise a b i h = sum (a / 2 ^ i * 2 ^ i) (b / 2 ^ i * 2 ^ i) (a % 2 ^ i) (b % 2 ^ i) (split a i) (split b i) (mul-le-mul_right (2 ^ i) (shr_mono i h))
  where
    sum : (x y r t : ℕ) → x + r ≡ a → y + t ≡ b → x ≤ y → t ≤ r + (b - a)
    sum x y r t e f g = omega arith

module _ (set : ℕ) where
  rank_next : (s : ℕ) → rank set (suc s) ≤ suc (rank set s)
  rank_next s = ⊎_elim (λ t. omega (arith, rank_in set s t)) (λ t. omega (arith, rank_out set s t)) (holds_or (bit s set))

  rank_near : (s u : ℕ) → s ≤ u → rank set u ≤ rank set s + (u - s)
  rank_near s u h = le_ind (λ k. rank set k ≤ rank set s + (k - s)) (omega arith) (λ m g r. omega (arith, rank_next m)) u h

  pub rank_le : (s : ℕ) → rank set s ≤ s
  unfolding rank count_below
  rank_le zero = omega arith
  rank_le (suc s) = omega (arith, rank_le s, rank_next s)

  gap_le : (s : ℕ) → gap set s ≤ s
  unfolding gap
  gap_le s = omega arith

  -- the states of S keep their order
  place_lt : (i s u : ℕ) → So (bit s set) → s < u → place set i s < place set i u
  unfolding place gap
  place_lt i s u t h =
      sum (gap set s % 2 ^ i) (gap set u % 2 ^ i) (rank set s) (rank set u) (rank_le s) (rank_le u) (rank_lt set t h) (rank_near s u (omega arith))
      (mod_rise (gap set s) (gap set u) i (omega (arith, rank_le s, rank_near s u (omega arith)))) (mod_le (gap set s) i)
    where
      sum : (x y r k : ℕ) → r ≤ s → k ≤ u → r < k → k ≤ r + (u - s) → y ≤ x + ((u - k) - (s - r)) → x ≤ s - r → s - x < u - y
      sum x y r k a b c d e f = omega arith

  place_apart : (i s u : ℕ) → So (bit s set) → So (bit u set) → place set i s ≡ place set i u → s ≡ u
  place_apart i s u a b e =
      let f : s < u → ⊥ = λ h. omega (arith, place_lt i s u a h) in
      let g : u < s → ⊥ = λ h. omega (arith, place_lt i u s b h) in
      omega arith

  place_low : (n i s : ℕ) → s < n → place set i s < n
  unfolding place
  place_low n i s h = omega arith

  gap_next : (i s : ℕ) → gap set s % 2 ^ suc i ≡ gap set s / 2 ^ i % 2 * 2 ^ i + gap set s % 2 ^ i
  gap_next i s = ap (λ (x : ℕ). gap set s % 2 ^ x) (sym (one-add i)) ∙ mod-pow-add (gap set s) 1 i

  place_moves : (i s : ℕ) → So (bit i (gap set s)) → place set i s ≡ 2 ^ i + place set (suc i) s
  unfolding place bit
  place_moves i s t =
      sum (gap set s % 2 ^ i) (gap set s % 2 ^ suc i) (2 ^ i)
      (gap_next i s ∙ ap (λ (x : ℕ). x * 2 ^ i + gap set s % 2 ^ i) (same_at t)) (omega (arith, mod_le (gap set s) (suc i), gap_le s))
    where
      sum : (x y d : ℕ) → y ≡ 1 * d + x → y ≤ s → s - x ≡ d + (s - y)
      sum x y d e h = omega arith

  place_stays : (i s : ℕ) → So (fails (bit i (gap set s))) → place set i s ≡ place set (suc i) s
  unfolding place bit
  place_stays i s t =
      let none : gap set s / 2 ^ i % 2 ≡ 1 → ⊥ = λ e. fails_at t (same_of e) in
      let e : gap set s / 2 ^ i % 2 ≡ 0 = omega (arith, mod-lt (gap set s / 2 ^ i) (zero-lt-suc 1)) in
      ap (λ (x : ℕ). s - x) (sym (gap_next i s ∙ ap (λ (x : ℕ). x * 2 ^ i + gap set s % 2 ^ i) e ∙ omega arith))

  place_first : (s : ℕ) → place set 0 s ≡ s
  unfolding place
  place_first s = omega (arith, mod-lt (gap set s) (pow_pos 0))

  place_last : (s : ℕ) → s < state_width → place set most_moves s ≡ rank set s
  unfolding place gap
  place_last s h =
      let e : gap set s % 2 ^ most_moves ≡ gap set s = mod-eq_of_lt (omega (arith, gap_le s)) in
      omega (arith, rank_le s)

-- ---- a word before the first move, from move to move, and after the last

module _ (n set w : ℕ) where
  pub closing_first : set < 2 ^ n → common set w ≡ closing n set w 0
  unfolding closing
  closing_first h =
      ext (common_lt n w h)
      (standing_lt n (λ s. bit s set and bit s w) (place set 0) (place_low set n 0))
      (λ j l.
      bit_common j set w ∙ sym (any_only (λ s. bit s set and bit s w) l)
      ∙ any_eq n (λ s k. ap (λ (x : ℕ). (bit s set and bit s w) and same j x) (sym (place_first set s)))
      ∙ sym (bit_standing n (λ s. bit s set and bit s w) (place set 0) j))

  pub closing_next : (i x m : ℕ) → x ≡ closing n set w i → m ≡ moving n set i → union (without x m) (common x m / 2 ^ 2 ^ i) ≡ closing n set w (suc i)
  unfolding closing moving M
  closing_next i x m e f =
      ap₂ (λ (x m : ℕ). union (without x m) (common x m / 2 ^ 2 ^ i)) e f
      ∙ moved n (2 ^ i) (λ s. bit s set) (λ s. bit i (gap set s)) (λ s. bit s set and bit s w) (place set i) (place set (suc i))
      (place_apart set i) (place_moves set i) (place_stays set i) (λ s. and_left _) (place_low set n i)

  -- a move in which nothing goes down changes nothing
  pub closing_still : (i x m : ℕ) → x ≡ closing n set w i → m ≡ moving n set i → m ≡ 0 → x ≡ closing n set w (suc i)
  closing_still i x m e f z =
      sym (ap₂ union (ap (λ (y : ℕ). without x y) z ∙ ap (bit_xor x) (and_zero_r x) ∙ xor_zero_r x) (ap (λ (y : ℕ). common x y / 2 ^ 2 ^ i) z
      ∙ ap (λ (y : ℕ). y / 2 ^ 2 ^ i) (and_zero_r x) ∙ zero-div (2 ^ 2 ^ i)) ∙ or_zero_r x)
      ∙ closing_next i x m e f

  pub closing_last : n ≤ state_width → closing n set w most_moves ≡ close_up n set w
  unfolding closing close_up
  closing_last h =
      join_over_eq n (λ s l. ap (λ (x : ℕ). keep (bit s set and bit s w) (single x)) (place_last set s (omega arith)))

  -- a set of n states has no others
  pub close_up_wide : (k : ℕ) → n ≤ k → set < 2 ^ n → close_up k set w ≡ close_up n set w
  unfolding close_up join_over keep choose ◌and◌
  close_up_wide k h l = le_ind (λ k. close_up k set w ≡ close_up n set w) refl (λ m g r. none m g ∙ r) k h
    where
      none : (m : ℕ) → n ≤ m → close_up (suc m) set w ≡ close_up m set w
      none m g =
          ap (λ (b : Bool). union (close_up m set w) (keep (b and bit m w) (single (rank set m)))) (bit_above l g) ∙ or_zero_r (close_up m set w)

-- ---- all that have as far to go at once

module _ (set far : ℕ) where
  going_lt : going set far < 2 ^ state_width
  unfolding going
  going_lt = standing_lt state_width (λ s. bit s set and same (gap set s) far) (λ s. s) (λ s l. l)

  -- such a state is in S, and so far above its new number
  going_at_lem : (s : ℕ) → So (bit s (going set far)) → So (bit s set) × (s ≡ far + rank set s) × (s < state_width)
  unfolding going gap
  going_at_lem s t =
      let (u, l, v, e) = stands_at state_width (λ s. bit s set and same (gap set s) far) (λ s. s) s t in
      let g : gap set u ≡ far = same_at (and_right _ v) in
      subst (λ (x : ℕ). So (bit x set) × (x ≡ far + rank set x) × (x < state_width)) (sym e)
      (and_left _ v, omega (arith, rank_le set u), l)

module _ (set w near far low high : ℕ) (small : set < 2 ^ state_width) (low_is : low ≡ going set near) (high_is : high ≡ going set far)
    (all : union low high ≡ set) where
  -- a word closed up, by its states
  new : (ℕ → Bool)
  new = λ s. bit s set and bit s w

  one_there : (d m : ℕ) → m ≡ going set d → (j : ℕ) → So (bit (d + j) m and bit (d + j) w) → So (bit j (standing state_width new (rank set)))
  unfolding new
  one_there d m e j t =
      let (i, r, l) = going_at_lem set d (d + j) (sym (ap (bit (d + j)) e) ∙ and_left _ t) in
      stands_of state_width (λ s. bit s set and bit s w) (rank set) (d + j) j l (and_of i (and_right _ t)) (omega arith)

  one_back : (d m : ℕ) → m ≡ going set d → (s j : ℕ) → So (bit s m) → So (bit s w) → j ≡ rank set s → So (bit (d + j) m and bit (d + j) w)
  one_back d m e s j t u f =
      let (i, r, l) = going_at_lem set d s (sym (ap (bit s) e) ∙ t) in
      let g : s ≡ d + j = omega arith in
      subst (λ (x : ℕ). So (bit x m and bit x w)) g (and_of t u)

  runs_there : (j : ℕ) → So ((bit (near + j) low and bit (near + j) w) or (bit (far + j) high and bit (far + j) w)) → So (bit j (standing state_width new (rank set)))
  runs_there j t = ⊎_elim (one_there near low low_is j) (one_there far high high_is j) (or_at t)

  runs_back : (j : ℕ) → So (bit j (standing state_width new (rank set))) → So ((bit (near + j) low and bit (near + j) w) or (bit (far + j) high and bit (far + j) w))
  unfolding new
  runs_back j t =
      let (s, l, u, e) = stands_at state_width (λ s. bit s set and bit s w) (rank set) j t in
      ⊎_elim
      (λ m. or_left _ (one_back near low low_is s j m (and_right _ u) e))
      (λ m. or_right _ (one_back far high high_is s j m (and_right _ u) e))
      (or_at (sym (bit_union s low high) ∙ ap (bit s) all ∙ and_left _ u))

  part_lt : (d m : ℕ) → m ≡ going set d → common m w / 2 ^ d < 2 ^ state_width
  part_lt d m e = lt_of_le_of_lt (shr_le (common m w) d) (common_lt state_width w (subst (λ (x : ℕ). x < 2 ^ state_width) (sym e) (going_lt set d)))

  pub runs_close : union (common low w / 2 ^ near) (common high w / 2 ^ far) ≡ close_up state_width set w
  unfolding close_up new
  runs_close =
      ext {n = state_width}
      (union_lt state_width (part_lt near low low_is) (part_lt far high high_is))
      (standing_lt state_width new (rank set) (λ s l. omega (arith, rank_le set s)))
      (λ j l.
      bit_union j (common low w / 2 ^ near) (common high w / 2 ^ far)
      ∙ ap₂ ◌or◌ (bit_shift (common low w) near j ∙ bit_common (near + j) low w) (bit_shift (common high w) far j ∙ bit_common (far + j) high w)
      ∙ test_eq (runs_there j) (runs_back j))

  -- where all have as far to go, one shift does
  pub run_close : near ≡ far → common low w / 2 ^ near ≡ close_up state_width set w
  run_close e =
      let f : high ≡ low = high_is ∙ ap (going set) (sym e) ∙ sym low_is in
      sym (ap₂ (λ (m d : ℕ). union (common low w / 2 ^ near) (common m w / 2 ^ d)) f (sym e) ∙ or_self (common low w / 2 ^ near)) ∙ runs_close
