-- `Plain::mark` meets its contract: no number on the way is too large, and the mark is one of the marks.
use mathlib.Core.Path.{ap₂}
use native.Mathlib.Omega.{arith}
use Rattle.graph.specs.Marks.{spread, mark_of}
use Rattle.graph.proofs.equal.Plain.mark.Goals as goal

pub returns : goal.returns
unfolding spread mark_of
returns c = (ap₂ spread c.needs_of-needs.ensures c.adds_of-adds.ensures, omega arith)
