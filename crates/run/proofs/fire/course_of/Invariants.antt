-- The loop joins the bits of one proposition after the other.
use mathlib.Core.Path.{◌≡◌}
use Prim.Native.Nat.{◌≤◌}
use lib.ListN.{get_or}
use Rattle.rules.specs.Over.{join_over}
use Rattle.words.specs.Rows.{row_length}
use Rattle.run.specs.Fire.{literals_in}
use Rattle.run.proofs.fire.course_of.Given as goal

abbrev pub invariant-loop-p : goal.invariant-loop-p
invariant-loop-p l = (l.p ≤ row_length) × (l.course ≡ join_over l.p (λ i. literals_in l.set.0 i (get_or l.labels i 0)))
