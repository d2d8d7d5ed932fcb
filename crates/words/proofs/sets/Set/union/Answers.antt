-- `union` meets its contract: the union of two sets is as narrow as they are.
use Rattle.rules.proofs.Words.{union_lt}
use Rattle.words.proofs.sets.Set.union.Goals as goal

pub from_word-requires : goal.from_word-requires
from_word-requires g c = union_lt g.Self.Set.width c.word.ensures.inside c.word-2.ensures.inside
