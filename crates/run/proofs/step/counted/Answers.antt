-- A change of none is one more, one of some is none.
use Prim.Native.Nat.{ℕ, ◌+◌}
use mathlib.Core.Path.{◌≡◌, sym, ap, ◌∙◌}
use native.Mathlib.Nat.{add-zero}
use native.Mathlib.Omega.{arith}
use Rattle.run.specs.Course.{idle_by}
use Rattle.run.specs.declared.step.Change.{Change}
use Rattle.run.specs.declared.step.Change.TheVariants.{Some, None}
use Rattle.run.proofs.step.counted.Goals as goal

-- what is told of the change, as a number
one : {x : Change} → x ≡ None → idle_by x ≡ 1
unfolding idle_by
one e = ap idle_by e

none : {x : Change} → x ≡ Some → idle_by x ≡ 0
unfolding idle_by
none e = ap idle_by e

pub returns-in-None : goal.returns-in-None
returns-in-None c = ap (λ (x : ℕ). c.args.idle + x) (sym (one c.in-None.is))

pub overflow_add-result : goal.overflow_add-result
overflow_add-result c = omega (arith, one c.in-None.is, c.requires)

pub returns : goal.returns
returns c = sym (ap (λ (x : ℕ). c.args.idle + x) (none c.in_default.is) ∙ add-zero _)
