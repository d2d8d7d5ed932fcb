-- The bits that were turned are those of the columns.
use mathlib.Core.Path.{◌∙◌}
use lib.ListN.{length}
use Rattle.words.proofs.Squares.{columns_turned}
use Rattle.words.proofs.turned.columns_of_square.Goals as goal

pub returns : goal.returns
returns c =
    c.widen.ensures
    ∙ columns_turned (length c.args.row.now) c.args.sets.now c.turn_bits.new.rows c.requires.0 c.requires.1 (λ p. (c.slice_known-3-1.given p).fits) c.turn_bits.ensures
