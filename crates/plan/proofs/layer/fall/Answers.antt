-- The part lent is the action layer of the definition, and the memory below begins with nothing needed.
use Prim.Native.Nat.{ℕ, ◌+◌}
use mathlib.Core.List.{List}
use mathlib.Core.Path.{ap₂, subst}
use native.Mathlib.Omega.{arith}
use lib.ListN.{length-take, length-drop}
use Rattle.words.specs.Width.{prop_width}
use Rattle.words.proofs.Zeros.{zeros}
use Rattle.plan.specs.Search.{listed_actions, Covers}
use Rattle.plan.proofs.Descents.{fall_fits, fall_part}
use Rattle.plan.proofs.layer.fall.Goals as goal

pub slice_bounds-down-end : goal.slice_bounds-down-end
slice_bounds-down-end c =
    fall_fits c.args.t _ _ c.requires.0 (ap₂ ◌+◌ c.layer_start.ensures.0 c.layer_size.ensures.0) c.layer_size-2.ensures.0

pub down-requires : goal.down-requires
down-requires c = (
  record {
    tables = c.args.effects.now.tables;
    wide = c.requires.1;
    live = c.requires.2;
    labelled = simp (length-take, length-drop) (omega (arith, c.layer_size-2.ensures, fall_fits c.args.t _ _ c.requires.0 (ap₂ ◌+◌ c.layer_start.ensures.0 c.layer_size.ensures.0) c.layer_size-2.ensures.0));
  },
  zeros _ prop_width c.args.effects.now.tables.props,
)

pub returns : goal.returns
returns c =
    let a = c.args in
    subst (λ (l : List ℕ). Covers (listed_actions a.effects.now.needs.now a.effects.now.owners.now a.effects.now.adders.now) l a.needed.now c.down.result c.down.new.needed)
    (fall_part a.effects.now.needs.now a.effects.now.owners.now a.effects.now.adders.now a.words.now a.t _ _
    (ap₂ ◌+◌ c.layer_start.ensures.0 c.layer_size.ensures.0) c.layer_size-2.ensures.0)
    c.down.ensures
