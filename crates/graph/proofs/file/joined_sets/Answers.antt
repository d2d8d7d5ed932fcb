use mathlib.Core.Path.{refl}
use native.Mathlib.Omega.{arith}
use Rattle.words.proofs.Folds.{join_none, join_more, join_done}
use Rattle.graph.proofs.file.joined_sets.Goals as goal

pub loop-i-init : goal.loop-i-init
loop-i-init c = join_none

pub loop-i-preserved : goal.loop-i-preserved
loop-i-preserved c = join_more c.loop-i.invariant (omega arith) refl c.set_at-joined.ensures

pub returns : goal.returns
returns c = join_done c.loop-i.invariant (omega arith)
