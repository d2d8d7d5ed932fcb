-- `is_empty` meets its contract: the operations are those of the definition.
use Rattle.std.proofs.Common.{ℕ, ap}
use Rattle.rules.specs.Test.{same}
use Rattle.words.proofs.sets.Set.is_empty.Goals as goal

pub returns : goal.returns
unfolding same
returns g c = ap (λ (w : ℕ). same w 0) c.word.ensures.is
