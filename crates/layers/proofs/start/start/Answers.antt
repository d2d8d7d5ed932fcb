-- The table, and the layer that it tells.
use mathlib.Core.Path.{◌∙◌}
use native.Mathlib.Omega.{arith}
use Rattle.together.proofs.Rows.{parts_le}
use Rattle.layers.proofs.Starts.{start_diagonal, start_layer_lem, start_tells}
use Rattle.layers.proofs.start.start.Goals as goal

pub put_props-requires : goal.put_props-requires
put_props-requires c = let ready = c.requires.0 in (
  record { props = omega (arith, ready.props, parts_le ready.parts); labels_long = ready.labels_long; t_long = c.start_table.auto.t ∙ ready.t_long },
  c.requires.1,
  start_diagonal c.args.n c.args.width c.args.labels.now c.start_table.new.t ready.props c.start_table.ensures,
)

pub returns : goal.returns
returns c = let a = c.args in
    let t = c.start_table.new.t in
    let is = c.start_table.ensures in (
      c.put_props.ensures,
      start_layer_lem a.n a.width a.labels.now t c.requires.0.props is,
      start_tells a.n a.width a.labels.now t c.requires.0.props is,
    )
