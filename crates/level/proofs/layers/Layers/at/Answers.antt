-- `Layers::at` meets its contract: the layer is cut out of the words.
use mathlib.Core.Path.{ap}
use Prim.Native.Nat.{◌+◌, ◌*◌, ◌≤◌}
use native.Mathlib.Omega.{arith}
use lib.ListN.{length}
use Rattle.rules.specs.Layer.{size, stride}
use Rattle.level.proofs.Parts.{layer_fits, layer_part}
use Rattle.level.proofs.layers.Layers.at.Goals as goal
use Rattle.level.proofs.layers.Layers.at.Goals.{After-layer_size}

-- it lies within them
fits : (c : After-layer_size) → c.args.t * stride c.args.self.now.shape + size c.args.self.now.shape.props ≤ length c.args.self.now.words.now
fits c = layer_fits c.args.self.now.room c.args.t c.requires

pub slice_bounds-result-end : goal.slice_bounds-result-end
slice_bounds-result-end c = omega (arith, fits (goal.at.slice_bounds-result-end c).After-layer_size)

pub returns : goal.returns
returns c =
    let v = c.args.self.now in
    layer_part v.shape c.args.t _ _ v.words.now c.layer_start-start.ensures.0 (ap (λ x. c.layer_start-start.result + x) c.layer_size.ensures.0)
