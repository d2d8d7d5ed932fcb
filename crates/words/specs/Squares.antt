-- A square of bits, turned round by ever smaller squares: in each square of 2w by 2w bits, the upper right quarter and the lower left one change places.
use Rattle.std.specs.Prelude.{ℕ, zero, suc, ◌+◌, ◌*◌, ◌/◌, ◌%◌, ◌^◌, Bool, List, get_or, set}
use Rattle.std.specs.Int.Bits.{bit_and, bit_xor}
use Rattle.rules.specs.Test.{◌and◌, fails, same, below, choose}
use Rattle.rules.specs.Word.{bit}
use Rattle.rules.specs.Over.{all_below}
use Rattle.words.specs.Width.{prop_width}

-- the pairs of rows that a stage swaps bits of
abbrev pub pair_count : ℕ
pair_count = 16

-- what rows x and y exchange, at the places of y; `low` has w ones, w zeros, w ones ..
unfoldable pub change_of : ℕ → ℕ → ℕ → ℕ → ℕ
change_of w low x y = bit_and (bit_xor (x / 2 ^ w) y) low

-- row x with the low bits of y as its high ones
unfoldable pub upper_of : ℕ → ℕ → ℕ → ℕ → ℕ
upper_of w low x y = bit_xor x (change_of w low x y * 2 ^ w % 2 ^ prop_width)

-- row y with the high bits of x as its low ones
unfoldable pub lower_of : ℕ → ℕ → ℕ → ℕ → ℕ
lower_of w low x y = bit_xor y (change_of w low x y)

unfoldable pub swap_pair : ℕ → ℕ → ℕ → List ℕ → List ℕ
swap_pair w low i rows =
    set (set rows i (upper_of w low (get_or rows i 0) (get_or rows (i + w) 0))) (i + w) (lower_of w low (get_or rows i 0) (get_or rows (i + w) 0))

-- the upper row of pair k, and the pair of row i
unfoldable pub upper_row : ℕ → ℕ → ℕ
upper_row w k = k / w * w + k

unfoldable pub pair_of : ℕ → ℕ → ℕ
pair_of w i = i / (w * 2) * w + i % w

-- 0 in an upper row, 1 in a lower one; and so of columns
unfoldable pub half : ℕ → ℕ → ℕ
half w i = i / w % 2

-- the first k pairs swapped
unfoldable pub swap_pairs : ℕ → ℕ → ℕ → List ℕ → List ℕ
swap_pairs w low zero rows = rows
swap_pairs w low (suc k) rows = swap_pair w low (upper_row w k) (swap_pairs w low k rows)

-- pair k is an upper and a lower row
unfoldable pub is_pair : ℕ → ℕ → Bool
is_pair w k = below (upper_row w k + w) prop_width and same (pair_of w (upper_row w k)) k and same (pair_of w (upper_row w k + w)) k
    and same (half w (upper_row w k)) 0 and same (half w (upper_row w k + w)) 1

-- row i is in its pair
unfoldable pub in_pairs : ℕ → ℕ → Bool
in_pairs w i = same (upper_row w (pair_of w i) + half w i * w) i and below (pair_of w i) pair_count

-- column j is one of `low`, or one of `low` shifted up
unfoldable pub in_half : ℕ → ℕ → ℕ → Bool
in_half w low j = choose (same (half w j) 0) (bit j low and fails (bit j (low * 2 ^ w))) (fails (bit j low) and bit j (low * 2 ^ w) and fails (below j w))

-- with w and `low` a stage is of squares
unfoldable pub make_squares : ℕ → ℕ → Bool
make_squares w low = below 0 w and all_below pair_count (is_pair w) and all_below prop_width (in_pairs w) and all_below prop_width (in_half w low)
