-- The operations are those of the definition.
use mathlib.Core.Path.{refl}
use Rattle.words.specs.Squares.{change_of, upper_of, lower_of, swap_pair}
use Rattle.words.proofs.turned.swap_pair.Goals as goal

pub returns : goal.returns
unfolding swap_pair upper_of lower_of change_of
returns c = refl
