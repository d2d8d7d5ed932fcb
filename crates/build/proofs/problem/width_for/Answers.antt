-- A part where they fit it, else the whole row.
use mathlib.Core.Path.{refl}
use mathlib.Core.Logic.{inl, inr}
use native.Mathlib.Omega.{arith}
use Rattle.build.proofs.problem.width_for.Goals as goal

pub returns-then-n-gt-PART : goal.returns-then-n-gt-PART
returns-then-n-gt-PART c = (inr refl, omega arith)

pub returns : goal.returns
returns c = (inl refl, omega arith)
