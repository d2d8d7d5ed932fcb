-- Each case is one of the law's.
use mathlib.Core.Path.{ap, ap₂, ◌∙◌}
use Prim.Native.Nat.{ℕ}
use Rattle.rules.specs.Word.{union}
use Rattle.graph.specs.Format.{actions_of}
use Rattle.run.proofs.Touches.{made, fires_all, fires_none, fires_some}
use Rattle.run.proofs.fire.with_effect.Goals as goal

pub returns-then-t-set : goal.returns-then-t-set
unfolding actions_of
returns-then-t-set c =
    let a = c.args in
    ap₂ (λ (x y : ℕ). made (union a.did.del x) (union a.did.add y) a.did.some) c.deleted.ensures
    c.added.ensures
    ∙ fires_all (actions_of a.file.now.bytes.now a.file.now.counts) a.set.0 a.e a.t a.did c.if-t-set.true

pub returns-then-t-eq0 : goal.returns-then-t-eq0
returns-then-t-eq0 c =
    let a = c.args in
    fires_none (actions_of a.file.now.bytes.now a.file.now.counts) a.set.0 a.e a.t a.did c.if-t-set.false c.if-t-eq0.true

pub returns : goal.returns
returns c =
    let a = c.args in
    ap (λ (x : ℕ). made a.did.del a.did.add (union a.did.some x)) c.single.ensures
    ∙ fires_some (actions_of a.file.now.bytes.now a.file.now.counts) a.set.0 a.e a.t a.did c.if-t-set.false c.if-t-eq0.false
