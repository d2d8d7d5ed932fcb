-- Where the words of a layer lie, and what it says of two elements.
-- Assumes nothing.
use mathlib.Core.Path.{◌≡◌}
use mathlib.Core.List.{List}
use Prim.Native.Nat.{ℕ, ◌+◌, ◌-◌, ◌*◌, ◌≤◌, ◌<◌}
use native.Mathlib.Nat.{mul-le-mul, min-eq_left, max-eq_right, le_of_lt}
use native.Mathlib.Omega.{arith}
use lib.ListN.{get_or}
use Rattle.rules.specs.Test.{choose}
use Rattle.rules.specs.Layer.{size, pairs, pair_at, paired, mutex_in}
use Rattle.words.specs.Width.{word_width}
use Rattle.rules.proofs.Tests.{same_of, same_not}
use Rattle.rules.proofs.Layers.{size_pairs, pairs_sub, pairs_row}

-- a product of numbers of elements is small
pub small : {a b : ℕ} → a ≤ word_width → b ≤ 65 → a * b ≤ 4160
small h k = mul-le-mul h k

-- a layer's size times a depth is small
pub products : (a b : ℕ) → a ≤ 256 → b ≤ 2080 → a * b ≤ 532480
products a b h k = mul-le-mul h k

pub size_small : (n : ℕ) → n ≤ word_width → size n ≤ 2080
unfolding size
size_small n h = omega (arith, small {a = n} {b = n + 1} h (omega arith))

-- the pairs from row i on are in the layer
pub rows_in : (n i : ℕ) → pairs (n - i) ≤ size n
rows_in n i = omega (arith, size_pairs n, pairs_sub n i)

-- every pair is in the layer
pub pair_in : (n i j : ℕ) → i < j → j < n → pair_at n i j < size n
unfolding pair_at
pair_in n i j h l = omega (arith, rows_in n i, pairs_row n i (omega arith))

-- the mutex word of two elements lies at the place of the lower with the higher; an element has none with itself
module _ (n : ℕ) (l : List ℕ) (i j at : ℕ) where
  pub mutex_up : i < j → at ≡ pair_at n i j → get_or l at 0 ≡ mutex_in n l i j
  unfolding mutex_in paired choose
  mutex_up h e = simp (e, same_not {i = i} {j = j} (λ q. omega arith), min-eq_left (le_of_lt h), max-eq_right (le_of_lt h))

pub mutex_own : (n : ℕ) (l : List ℕ) (i j : ℕ) → i ≡ j → 0 ≡ mutex_in n l i j
unfolding mutex_in paired choose
mutex_own n l i j e = simp (same_of e)
