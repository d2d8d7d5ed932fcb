-- `within` meets its contract: the operations are those of the definition.
use Rattle.std.proofs.Common.{ap₂}
use Rattle.rules.specs.Word.{within}
use Rattle.rules.specs.Test.{same}
use Rattle.words.proofs.sets.Set.within.Goals as goal

pub returns : goal.returns
unfolding within same
returns g c = ap₂ within c.word-own.ensures.is c.word.ensures.is
