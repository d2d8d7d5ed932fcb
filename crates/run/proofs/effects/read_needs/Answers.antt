use mathlib.Core.Path.{sym, ◌∙◌}
use native.Mathlib.Nat.{zero-add}
use native.Mathlib.Omega.{arith}
use Rattle.words.proofs.Writes.{list_none, list_more, list_whole}
use Rattle.run.proofs.effects.read_needs.Goals as goal

pub loop-a-init : goal.loop-a-init
loop-a-init c = list_none (omega (arith, c.requires))

pub loop-a-preserved : goal.loop-a-preserved
loop-a-preserved c =
    let l = c.loop-a in
    let p = c.requires in
    list_more l.invariant (omega (arith, p)) (sym (zero-add l.a)) (c.wide.ensures ∙ c.precondition.ensures)

pub returns : goal.returns
returns c = let p = c.requires in list_whole c.loop-a.invariant (omega (arith, p)) p
