-- The start sets are laid first, then those of the set are moved where they lie.
use Prim.Native.Nat.{ℕ, ◌<◌, ◌^◌}
use mathlib.Core.Path.{sym, subst}
use native.Mathlib.Omega.{arith}
use Rattle.graph.specs.Format.{start_of}
use Rattle.run.proofs.Starts.{lent_long, laid_sets}
use Rattle.run.proofs.lay.Goals as goal

pub returns : goal.returns
returns c =
    laid_sets c.args.file.now.counts.states (start_of c.args.file.now.bytes.now c.args.file.now.counts) _ _ c.requires.1 c.lay_starts.ensures
    c.args.set.0 c.args.course _ c.move_states.ensures

pub slice_bounds-move_states-end-2 : goal.slice_bounds-move_states-end-2
slice_bounds-move_states-end-2 c =
    sym (lent_long c.args.file.now.counts.states (start_of c.args.file.now.bytes.now c.args.file.now.counts) _ _ c.requires.1 c.lay_starts.ensures)

pub move_states-requires : goal.move_states-requires
move_states-requires c =
    let long = lent_long c.args.file.now.counts.states (start_of c.args.file.now.bytes.now c.args.file.now.counts) _ _ c.requires.1 c.lay_starts.ensures in
    (subst (λ (n : ℕ). c.args.set.0 < 2 ^ n) (sym long) c.requires.0.inside, omega (arith, long, c.args.file.now.taken.ranged.states))
