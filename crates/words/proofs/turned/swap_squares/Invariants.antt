-- The loop swaps one pair after the other.
use mathlib.Core.Bool.{So}
use mathlib.Core.Path.{◌≡◌}
use Prim.Native.Nat.{◌≤◌}
use lib.ListN.{length}
use Rattle.words.specs.Squares.{pair_count, swap_pairs, make_squares}
use Rattle.words.specs.Width.{prop_width}
use Rattle.words.proofs.turned.swap_squares.Given as goal

abbrev pub invariant-loop-k : goal.invariant-loop-k
invariant-loop-k l = (length l.initial.rows ≡ prop_width) × So (make_squares l.w l.low) × (l.k ≤ pair_count) × (l.rows ≡ swap_pairs l.w l.low l.k l.initial.rows)
