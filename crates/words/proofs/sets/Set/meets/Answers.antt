-- `meets` meets its contract: the operations are those of the definition.
use Rattle.std.proofs.Common.{ap₂}
use Rattle.rules.specs.Word.{meets}
use Rattle.rules.specs.Test.{same, fails}
use Rattle.words.proofs.sets.Set.meets.Goals as goal

pub returns : goal.returns
unfolding meets same fails
returns g c = ap₂ meets c.word.ensures.is c.word-2.ensures.is
