-- The code's form is that of the pair's place; products of at most 64 elements are small, and every pair is in the layer.
use mathlib.Core.Path.{refl}
use Prim.Native.Nat.{◌+◌, ◌-◌}
use native.Mathlib.Omega.{arith}
use borrow.Author.Rules.{rules}
use Rattle.rules.specs.Layer.{size, pairs, pair_at}
use Rattle.words.proofs.Places.{small, size_small, rows_in, pair_in}
use Rattle.graph.proofs.layout.pair_at.Goals as goal

pub overflow_mul-result : goal.overflow_mul-result
overflow_mul-result c = omega (arith, small {a = c.args.n} {b = c.args.n + 1} (search rules) (search rules))

pub overflow_mul-result-2 : goal.overflow_mul-result-2
overflow_mul-result-2 c = omega (arith, small {a = c.args.n - c.args.i} {b = c.args.n - c.args.i - 1} (omega arith) (omega arith))

pub overflow_sub-result-4 : goal.overflow_sub-result-4
unfolding pairs size
overflow_sub-result-4 c = rows_in c.args.n c.args.i

pub overflow_add-result-2 : goal.overflow_add-result-2
unfolding size pairs
overflow_add-result-2 c = omega (arith, size_small c.args.n (search rules))

pub returns : goal.returns
unfolding size pairs pair_at
returns c = (refl, pair_in c.args.n c.args.i c.args.j (search rules) (search rules))
