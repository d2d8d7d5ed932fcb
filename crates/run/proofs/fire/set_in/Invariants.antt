-- The loop joins the bit of one proposition after the other.
use mathlib.Core.Path.{◌≡◌}
use Prim.Native.Nat.{◌≤◌}
use lib.ListN.{get_or}
use Rattle.rules.specs.Word.{bit, single}
use Rattle.rules.specs.Over.{keep, join_over}
use Rattle.words.specs.Rows.{row_length}
use Rattle.run.proofs.fire.set_in.Given as goal

abbrev pub invariant-loop-p : goal.invariant-loop-p
invariant-loop-p l = (l.p ≤ row_length) × (l.set ≡ join_over l.p (λ i. keep (bit l.s (get_or l.labels i 0)) (single i)))
