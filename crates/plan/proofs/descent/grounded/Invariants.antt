-- The loop joins what lies outside of the labels; at its end there is nothing of it just when each need lies within its label.
use Prim.Native.Nat.{◌≤◌}
use lib.ListN.{length, get_or}
use Rattle.rules.specs.Word.{without}
use Rattle.words.proofs.Folds.{Joins}
use Rattle.plan.proofs.descent.grounded.Given as goal

abbrev pub invariant-loop-p : goal.invariant-loop-p
invariant-loop-p l = (length l.needed ≤ length l.words)
    × Joins (λ q. without (get_or l.needed q 0) (get_or l.words q 0)) (length l.needed) l.p l.outside
