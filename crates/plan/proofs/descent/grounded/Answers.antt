use borrow.Author.Rules.{rules}
use Prim.Native.Nat.{ℕ}
use mathlib.Core.Path.{refl, ap, ◌∙◌}
use native.Mathlib.Omega.{arith}
use Rattle.rules.specs.Test.{same}
use Rattle.rules.specs.Word.{within}
use Rattle.rules.specs.Layer.{label_in}
use Rattle.words.proofs.Folds.{join_none, join_more, join_done}
use Rattle.plan.proofs.Counts.{all_empty}
use Rattle.plan.proofs.descent.grounded.Goals as goal

pub loop-p-init : goal.loop-p-init
loop-p-init c = (search rules, join_none)

pub loop-p-preserved : goal.loop-p-preserved
loop-p-preserved c = let l = c.loop-p in (l.invariant.0, join_more l.invariant.1 (omega arith) refl refl)

pub returns : goal.returns
unfolding same within label_in
returns c = ap (λ (x : ℕ). same x 0) (join_done c.loop-p.invariant.1 (omega arith)) ∙ all_empty _ _
