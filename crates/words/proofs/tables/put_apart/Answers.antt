use mathlib.Core.Path.{refl, sym}
use native.Mathlib.Nat.{zero-add}
use native.Mathlib.Omega.{arith}
use Rattle.words.proofs.Writes.{list_none, list_more, list_whole}
use Rattle.words.proofs.tables.put_apart.Goals as goal

pub loop-k-init : goal.loop-k-init
loop-k-init c = list_none (omega arith)

pub loop-k-preserved : goal.loop-k-preserved
loop-k-preserved c = list_more c.loop-k.invariant (omega arith) (sym (zero-add _)) refl

pub returns : goal.returns
returns c = list_whole c.loop-k.invariant (omega arith) refl
