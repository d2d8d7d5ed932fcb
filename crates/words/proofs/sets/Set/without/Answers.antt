-- `without` meets its contract: what is left of a set is as narrow as it was.
use Rattle.rules.proofs.Words.{without_lt}
use Rattle.words.proofs.sets.Set.without.Goals as goal

pub from_word-requires : goal.from_word-requires
from_word-requires g c = without_lt g.Self.Set.width c.word.result c.word-own.ensures.inside
