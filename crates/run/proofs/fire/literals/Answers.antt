-- Each of the two words is empty or a single one.
use mathlib.Core.Path.{ap₂, ◌∙◌}
use Rattle.rules.specs.Word.{union, single}
use Rattle.words.specs.Width.{prop_width}
use Rattle.run.specs.Fire.{literals_in}
use Rattle.run.proofs.Idles.{lacking_none, lacking_some, having_none, having_some}
use Prim.Native.Nat.{◌+◌}
use Rattle.run.proofs.fire.literals.Goals as goal
use Rattle.run.proofs.fire.literals.Goals.{then-had-set, else-had-set, then-had-eq0, else-had-eq0}

pub returns : goal.returns
unfolding literals_in
returns c =
    let a = c.args in
    let p = single a.p in
    let q = single (prop_width + a.p) in
    ap₂ union
    (elim c.if-had-set.branch [
      | then-had-set w ↦ w.lacking-is ∙ lacking_none a.set.0 a.label p w.if-had-set.true
      | else-had-set w ↦ w.lacking-is ∙ w.single-lacking.ensures ∙ lacking_some a.set.0 a.label p w.if-had-set.false
    ])
    (elim c.if-had-eq0.branch [
      | then-had-eq0 w ↦ w.having-is ∙ having_none a.set.0 a.label q w.if-had-eq0.true
      | else-had-eq0 w ↦ w.having-is ∙ w.single-having.ensures ∙ having_some a.set.0 a.label q w.if-had-eq0.false
    ])
