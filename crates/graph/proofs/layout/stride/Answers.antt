-- `layout::stride` meets its contract: the sum of the sizes of a layer of each kind.
use mathlib.Core.Path.{ap₂}
use Prim.Native.Nat.{ℕ, ◌+◌}
use native.Mathlib.Omega.{arith}
use Rattle.rules.specs.Layer.{stride}
use Rattle.graph.proofs.layout.stride.Goals as goal

pub returns : goal.returns
unfolding stride
returns c = (ap₂ (λ (x y : ℕ). x + y) c.layer_size.ensures.0 c.layer_size-2.ensures.0, omega arith)
