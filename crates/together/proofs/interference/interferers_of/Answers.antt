use mathlib.Core.Path.{refl}
use borrow.Author.Rules.{rules as simple}
use Rattle.together.specs.Interference.{interferers_of}
use Rattle.words.proofs.Folds.{join_none, join_more, join_done}
use Rattle.together.proofs.interference.interferers_of.Goals as goal

pub loop-j-init : goal.loop-j-init
loop-j-init c = join_none

pub loop-j-preserved : goal.loop-j-preserved
loop-j-preserved c = join_more c.loop-j.invariant (search simple) refl c.interferer-joined.ensures

pub returns : goal.returns
unfolding interferers_of
returns c = join_done c.loop-j.invariant (search simple)
