use mathlib.Core.Path.{sym, ◌∙◌}
use native.Mathlib.Omega.{arith}
use borrow.Author.Rules.{rules}
use Rattle.graph.proofs.Equals.{looked_none, looked_more, looked_found, looked_done}
use Rattle.graph.proofs.equal.Plain.equal_after.Goals as goal

pub loop-later-init : goal.loop-later-init
loop-later-init c = looked_none

pub returns-then-equal : goal.returns-then-equal
returns-then-equal c = looked_found c.loop-later.invariant (search rules) (sym c.same_sets-equal.ensures ∙ c.if-equal.true)

pub loop-later-preserved : goal.loop-later-preserved
loop-later-preserved c = looked_more c.loop-later.invariant (sym c.same_sets-equal.ensures ∙ c.if-equal.false)

pub returns : goal.returns
returns c = looked_done c.loop-later.invariant (omega arith)
