-- `has` meets its contract: the operations are those of the definition.
use Rattle.std.proofs.Common.{ap}
use Rattle.rules.specs.Word.{bit}
use Rattle.rules.specs.Test.{same}
use Rattle.words.proofs.sets.Set.has.Goals as goal

pub returns : goal.returns
unfolding bit same
returns g c = ap (bit c.args.i) c.word.ensures.is
