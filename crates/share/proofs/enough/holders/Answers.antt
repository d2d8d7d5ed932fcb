-- The labels, and then the mutex words.
use mathlib.Core.Path.{sym, subst, ◌∙◌}
use Prim.Native.Nat.{ℕ}
use native.Mathlib.Omega.{arith}
use Rattle.rules.proofs.Tests.{is_fails}
use Rattle.rules.proofs.Layers.{labels_in}
use Rattle.share.specs.Sums.{Looked}
use Rattle.share.proofs.Holders.{looked_part, holders_in, holders_are}
use Rattle.share.proofs.enough.holders.Goals as goal

pub with_labels-held-requires : goal.with_labels-held-requires
with_labels-held-requires c =
    (c.requires.0, omega (arith, c.requires.1, labels_in c.args.n), c.requires.2)

pub returns-then-within : goal.returns-then-within
returns-then-within c =
    let a = c.args in
    looked_part _ _ (holders_in a.n a.all.0 a.layer.now a.goal.0) c.with_labels-held.ensures
    (sym c.within.ensures ∙ c.if-within.true)

pub returns : goal.returns
returns c =
    let a = c.args in
    subst (λ (x : ℕ). Looked x a.short.0 c.free_in.result.0)
    (holders_are a.n a.all.0 a.layer.now a.goal.0
    (c.with_labels-held.ensures.else (is_fails (sym c.within.ensures ∙ c.if-within.false))))
    c.free_in.ensures
