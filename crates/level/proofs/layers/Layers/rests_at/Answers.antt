-- `Layers::rests_at` meets its contract: both layers are at least as long.
use mathlib.Core.Path.{sym, ap₂, ◌∙◌}
use mathlib.Core.List.{List}
use Prim.Native.Nat.{ℕ, ◌+◌}
use native.Mathlib.Omega.{arith}
use Rattle.rules.specs.Over.{all_below}
use Rattle.level.specs.Meets.{same_at}
use Rattle.level.proofs.Parts.{front_length, front_same}
use Rattle.level.proofs.layers.Layers.rests_at.Goals as goal

pub slice_bounds-same_layers-end : goal.slice_bounds-same_layers-end
slice_bounds-same_layers-end c = sym (front_length c.args.self.now.room c.args.t c.args.count (omega arith) (omega arith) c.at.ensures)

pub slice_bounds-same_layers-end-2 : goal.slice_bounds-same_layers-end-2
slice_bounds-same_layers-end-2 c = sym (front_length c.args.self.now.room (c.args.t + 1) c.args.count (omega arith) (omega arith) c.at-2.ensures)

pub same_layers-requires : goal.same_layers-requires
same_layers-requires c =
    front_length c.args.self.now.room (c.args.t + 1) c.args.count (omega arith) (omega arith) c.at-2.ensures
    ∙ sym (front_length c.args.self.now.room c.args.t c.args.count (omega arith) (omega arith) c.at.ensures)

pub returns : goal.returns
returns c =
    front_same _ _ c.args.count (front_length c.args.self.now.room c.args.t c.args.count (omega arith) (omega arith) c.at.ensures) c.same_layers.ensures
    ∙ ap₂ (λ (one other : List ℕ). all_below c.args.count (same_at one other)) c.at.ensures c.at-2.ensures
