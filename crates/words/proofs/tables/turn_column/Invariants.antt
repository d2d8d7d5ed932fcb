-- The loop writes one word after the other.
use Prim.Native.Nat.{◌*◌}
use Rattle.words.specs.Rows.{row_length, cell}
use Rattle.words.proofs.Writes.{Lists}
use Rattle.words.proofs.tables.turn_column.Given as goal

abbrev pub invariant-loop-i : goal.invariant-loop-i
invariant-loop-i l = Lists (λ i'. cell l.from i' l.j) (l.j * row_length) l.m l.initial.to l.i l.to
