-- The loop writes one word after the other.
use lib.ListN.{get_or}
use Rattle.words.specs.Rows.{part_length}
use Rattle.words.proofs.Writes.{Lists}
use Rattle.words.proofs.parts.put_part.Given as goal

abbrev pub invariant-loop-k : goal.invariant-loop-k
invariant-loop-k l = Lists (λ k'. get_or l.part k' 0) l.to part_length l.initial.dest l.k l.dest
