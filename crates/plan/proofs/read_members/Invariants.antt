-- The loop reads one effect after the other: what it needs and its action are stored, and it is joined to the adders of what it adds.
use mathlib.Core.Path.{◌≡◌}
use lib.ListN.{length}
use Rattle.plan.proofs.Readings.{Reading}
use Rattle.plan.proofs.read_members.Given as goal

abbrev pub invariant-loop-e : goal.invariant-loop-e
invariant-loop-e l = (length l.initial.needs ≡ l.file.counts.effects) × Reading l.file.bytes.now l.file.counts l.initial.needs l.initial.owners l.needs l.owners l.adders l.e
