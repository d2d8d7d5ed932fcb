use mathlib.Core.Path.{sym, ap, ◌∙◌}
use Prim.Native.Nat.{ℕ, ◌+◌}
use native.Mathlib.Nat.{zero-add}
use native.Mathlib.Omega.{arith}
use lib.ListN.{get_or}
use Rattle.words.proofs.Writes.{list_none, list_more, list_whole, list_ahead}
use Rattle.words.proofs.parts.fold_part.Goals as goal

pub loop-k-init : goal.loop-k-init
loop-k-init g c = list_none (omega arith)

pub loop-k-preserved : goal.loop-k-preserved
loop-k-preserved g c =
    let a = c.args in
    list_more c.loop-k.invariant (omega arith) (sym (zero-add _))
    (c.fold.ensures ∙ ap (λ (x : ℕ). g.F.Fold.op x (get_or a.table.now (a.at + c.loop-k.k) 0)) (list_ahead c.loop-k.invariant (sym (zero-add _))))

pub returns : goal.returns
returns g c = list_whole c.loop-k.invariant (omega arith) (omega arith)
