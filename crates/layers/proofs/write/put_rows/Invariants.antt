-- The loop writes one row after the other, in two parts.
use Rattle.words.proofs.Writes.{Runs}
use Rattle.layers.specs.Write.{effect_row}
use Rattle.layers.proofs.write.put_rows.Given as goal

abbrev pub invariant-loop-i : goal.invariant-loop-i
invariant-loop-i l = Runs (effect_row l.n l.a l.tables.live l.labels l.tables.mates l.tables.r) l.to l.a l.initial.words l.i l.at l.words
