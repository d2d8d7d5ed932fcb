use Rattle.words.proofs.Writes.{list_none, list_more, list_done}
use Rattle.extract.specs.Moves.{cut_words}
use native.Mathlib.Omega.{arith}
use mathlib.Core.Path.{refl}
use Rattle.extract.proofs.close.Moves.cut_words.Goals as goal

pub loop-i-init : goal.loop-i-init
loop-i-init c = list_none (omega arith)

pub bounds-out-k : goal.bounds-out-k
bounds-out-k c = omega (arith, c.loop-i.invariant.long)

pub loop-i-preserved : goal.loop-i-preserved
loop-i-preserved c = list_more c.loop-i.invariant (omega arith) refl c.close_up.ensures

pub shape_of-out : goal.shape_of-out
shape_of-out c = c.loop-i.invariant.long

pub returns : goal.returns
unfolding cut_words
returns c = list_done c.loop-i.invariant (omega arith)
