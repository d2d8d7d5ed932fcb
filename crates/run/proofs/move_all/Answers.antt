use mathlib.Core.Path.{sym, ap, ◌∙◌}
use native.Mathlib.Nat.{zero-add}
use native.Mathlib.Omega.{arith}
use lib.ListN.{length}
use Rattle.rules.proofs.Tests.{choose_held, below_of}
use Rattle.rules.proofs.Words.{bit_first}
use Rattle.words.proofs.Writes.{list_none, list_more, list_ahead, list_whole}
use Rattle.run.specs.Course.{came, sets_of}
use Rattle.run.proofs.move_all.Goals as goal

pub loop-x-init : goal.loop-x-init
loop-x-init c = list_none (omega arith)

pub loop-x-preserved : goal.loop-x-preserved
loop-x-preserved c =
    let l = c.loop-x in
    let a = c.args in
    list_more l.invariant c.loop-x-test.true (sym (zero-add _))
    (c.came.ensures ∙ ap (came a.course) (list_ahead l.invariant (sym (zero-add _)))
    ∙ sym (choose_held _ (bit_first l.x-index (length a.out.now) ∙ below_of c.loop-x-test.true)))

pub returns : goal.returns
unfolding sets_of
returns c = list_whole c.loop-x.invariant (omega arith) (omega arith)
