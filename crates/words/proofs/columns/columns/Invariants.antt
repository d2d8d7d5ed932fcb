-- The loop joins each number to the words of what its set contains.
use Rattle.words.specs.Width.{prop_width, word_width}
use Rattle.rules.specs.Lists.{list_over}
use Rattle.rules.specs.Shared.{start_label}
use lib.ListN.{length, get_or}
use Prim.Native.Nat.{◌≤◌}
use mathlib.Core.Path.{◌≡◌}
use Rattle.words.proofs.columns.columns.Given as goal

abbrev pub invariant-loop-i : goal.invariant-loop-i
invariant-loop-i l = (length l.initial.row ≤ prop_width) × (length l.sets ≤ word_width) × (l.i ≤ length l.sets) × (length l.row ≡ length l.initial.row)
    × (l.row ≡ list_over (length l.initial.row) (start_label l.i (λ j. get_or l.sets j 0)))
