use native.Mathlib.Omega.{arith}
use Rattle.rules.specs.Test.{same}
use Rattle.words.proofs.Compares.{compared_none, compared_more, compared_done}
use Rattle.words.proofs.equal.same_words.Goals as goal

pub loop-i-init : goal.loop-i-init
loop-i-init c = compared_none

pub loop-i-preserved : goal.loop-i-preserved
loop-i-preserved c = compared_more c.loop-i.invariant (omega arith)

pub returns : goal.returns
unfolding same
returns c = compared_done c.loop-i.invariant (omega arith)
