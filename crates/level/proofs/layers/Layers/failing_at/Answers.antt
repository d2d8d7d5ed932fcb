-- `Layers::failing_at` meets its contract: the layer is judged by itself.
use mathlib.Core.Path.{ap, subst, ◌∙◌}
use mathlib.Core.List.{List}
use lib.ListN.{length}
use Rattle.level.specs.Meets.{Judged}
use Rattle.level.proofs.Parts.{layer_fits, part_length}
use Rattle.level.proofs.layers.Layers.failing_at.Goals as goal

pub failing-requires : goal.failing-requires
failing-requires c =
    let v = c.args.self.now in
    (v.room.small.props, ap length c.at.ensures ∙ part_length v.shape c.args.t v.words.now (layer_fits v.room c.args.t c.requires.0), c.requires.1)

pub returns : goal.returns
returns c = subst (λ (l : List _). Judged c.args.self.now.shape.props l c.args.set.0 c.args.goal.0 c.failing.result) c.at.ensures c.failing.ensures
