-- One goal after the other: the entries that are written, by a memo of these layers and this set.
use mathlib.Core.Path.{◌≡◌}
use lib.ListN.{length, get_or}
use Rattle.words.proofs.Writes.{Lists}
use Rattle.page.specs.Memo.{entry_in}
use Rattle.page.proofs.put_entries.Given as goal

abbrev pub invariant-loop-i : goal.invariant-loop-i
invariant-loop-i l =
    Lists (λ j. entry_in l.layers.shape l.layers.depth l.fn.set.0 (get_or l.goals j 0) l.layers.words.now) 0 (length l.goals) l.initial.out l.i l.out
    × (l.memo.layers ≡ l.layers) × (l.memo.set ≡ l.fn.set)
