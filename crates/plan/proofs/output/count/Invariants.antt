-- The count so far and that of the words left make the count of all; a word has at most as many marks as it has bits.
use Rattle.rules.specs.Plan.{plan_count}
use Rattle.words.specs.Width.{prop_width}
use Rattle.graph.specs.Limits.{max_depth}
use lib.ListN.{length, drop}
use Prim.Native.Nat.{◌+◌, ◌*◌, ◌≤◌}
use mathlib.Core.Path.{◌≡◌}
use Rattle.plan.proofs.output.count.Given as goal

abbrev pub invariant-loop-marks : goal.invariant-loop-marks
invariant-loop-marks l = (length l.plan ≤ max_depth) × (l.marks-index ≤ length l.plan) × (l.n ≤ prop_width * l.marks-index) × (plan_count l.plan ≡ l.n + plan_count (drop l.marks-index l.plan))
