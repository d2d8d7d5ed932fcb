-- `layout::layer_start` meets its contract: so many strides.
use mathlib.Core.Path.{ap}
use Prim.Native.Nat.{ℕ, ◌*◌}
use native.Mathlib.Nat.{mul-le-mul}
use native.Mathlib.Omega.{arith}
use Rattle.graph.proofs.layout.layer_start.Goals as goal

pub overflow_mul-result : goal.overflow_mul-result
overflow_mul-result c = omega (arith, mul-le-mul c.requires.1 c.stride.ensures.1)

pub returns : goal.returns
returns c = (ap (λ (x : ℕ). c.args.t * x) c.stride.ensures.0, mul-le-mul c.requires.1 c.stride.ensures.1)
