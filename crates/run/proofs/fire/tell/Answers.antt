-- The rows differ, or they do not.
use mathlib.Core.Path.{sym, ◌∙◌}
use Rattle.run.proofs.Idles.{told_some, told_alike}
use Rattle.run.proofs.fire.tell.Goals as goal

pub returns-then-differ : goal.returns-then-differ
returns-then-differ c =
    let a = c.args in
    told_some a.set.0 a.before.now a.labels.now (sym c.differ.ensures ∙ c.if-differ.true) c.course_of.ensures

pub returns : goal.returns
returns c =
    let a = c.args in
    told_alike a.set.0 a.before.now a.labels.now c.differ.ensures c.if-differ.false
