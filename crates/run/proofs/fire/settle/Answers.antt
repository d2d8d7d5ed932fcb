use mathlib.Core.Path.{sym, ap, ◌∙◌}
use native.Mathlib.Omega.{arith}
use native.Mathlib.Nat.{zero-add}
use Rattle.words.proofs.Writes.{list_none, list_more, list_ahead, list_whole}
use Rattle.run.specs.Fire.{settled_label, settled}
use Rattle.run.proofs.fire.settle.Goals as goal

pub loop-p-init : goal.loop-p-init
loop-p-init c = list_none (omega (arith, c.told-labels))

pub loop-p-preserved : goal.loop-p-preserved
loop-p-preserved c =
    let l = c.loop-p in
    let a = c.args in
    list_more l.invariant (omega arith) (sym (zero-add _))
    (c.settled_label.ensures ∙ ap (settled_label a.set.0 a.course l.p) (list_ahead l.invariant (sym (zero-add _))))

pub returns : goal.returns
unfolding settled
returns c = list_whole c.loop-p.invariant (omega arith) c.told-labels
