-- `label::layer_size` meets its contract: it is the formula of the definition, which is small for at most 64 elements.
use mathlib.Core.Path.{refl}
use Prim.Native.Nat.{◌+◌}
use native.Mathlib.Omega.{arith}
use borrow.Author.Rules.{rules}
use Rattle.rules.proofs.Layers.{labels_in}
use Rattle.rules.specs.Layer.{size}
use Rattle.words.proofs.Places.{small, size_small}
use Rattle.graph.proofs.layout.layer_size.Goals as goal

pub overflow_mul-result : goal.overflow_mul-result
overflow_mul-result c = omega (arith, small {a = c.args.n} {b = c.args.n + 1} (search rules) (search rules))

pub returns : goal.returns
unfolding size
returns c = (refl, size_small c.args.n (search rules), labels_in c.args.n)
