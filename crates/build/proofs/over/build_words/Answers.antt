-- It lends its arrays, the lists cut to size.
use mathlib.Core.Path.{sym, ap, ◌∙◌}
use Prim.Native.Nat.{ℕ}
use native.Mathlib.Omega.{arith}
use lib.ListN.{replicate}
use lib.Seq.{length-take-le}
use Rattle.rules.specs.Lists.{list_over}
use Rattle.words.proofs.Zeros.{zeros}
use Rattle.build.proofs.over.build_words.Goals as goal

pub slice_bounds-build_in-end-2 : goal.slice_bounds-build_in-end-2
slice_bounds-build_in-end-2 c = sym (length-take-le _ _ (omega arith))

pub slice_bounds-build_in-end-3 : goal.slice_bounds-build_in-end-3
slice_bounds-build_in-end-3 c = sym (length-take-le _ _ (omega arith))

pub slice_bounds-build_in-end-4 : goal.slice_bounds-build_in-end-4
slice_bounds-build_in-end-4 c = sym (length-take-le _ _ (omega arith))

pub slice_bounds-build_in-end-5 : goal.slice_bounds-build_in-end-5
slice_bounds-build_in-end-5 c = sym (length-take-le _ _ (omega arith))

pub slice_bounds-build_in-end-6 : goal.slice_bounds-build_in-end-6
slice_bounds-build_in-end-6 c = sym (length-take-le _ _ (omega arith))

pub slice_bounds-build_in-end : goal.slice_bounds-build_in-end
slice_bounds-build_in-end c = sym (length-take-le _ _ (omega arith))

pub build_in-requires : goal.build_in-requires
build_in-requires c = let few = length-take-le {A = ℕ} c.args.file.now.counts.props (replicate 32 0) c.args.file.now.taken.ranged.props in record {
  fits = (c.requires.0, c.requires.1);
  rooms = record {
    needs_long = length-take-le _ _ (omega arith);
    adds_long = length-take-le _ _ (omega arith);
    dels_long = length-take-le _ _ (omega arith);
    owners_long = length-take-le _ _ (omega arith);
    adders_long = few;
    interferers_long = length-take-le _ _ (omega arith);
    no_adders = zeros c.args.file.now.counts.props 32 c.args.file.now.taken.ranged.props ∙ ap (λ (x : ℕ). list_over x (λ p. 0)) (sym few);
  };
}

pub shape_of-words : goal.shape_of-words
shape_of-words c = c.build_in.auto.words
