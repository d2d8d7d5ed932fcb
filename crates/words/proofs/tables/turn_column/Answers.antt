use mathlib.Core.Path.{refl}
use native.Mathlib.Omega.{arith}
use Rattle.words.specs.Rows.{cell}
use Rattle.words.proofs.Writes.{list_none, list_more, list_done}
use Rattle.words.proofs.tables.turn_column.Goals as goal

pub loop-i-init : goal.loop-i-init
loop-i-init c = list_none (omega arith)

pub loop-i-preserved : goal.loop-i-preserved
unfolding cell
loop-i-preserved c = list_more c.loop-i.invariant (omega arith) refl refl

pub returns : goal.returns
returns c = list_done c.loop-i.invariant (omega arith)
