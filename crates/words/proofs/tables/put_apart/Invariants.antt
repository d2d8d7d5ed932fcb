-- The loop writes one word after the other.
use lib.ListN.{length, get_or}
use Rattle.rules.specs.Word.{common, without}
use Rattle.words.proofs.Writes.{Lists}
use Rattle.words.proofs.tables.put_apart.Given as goal

abbrev pub invariant-loop-k : goal.invariant-loop-k
invariant-loop-k l = Lists (λ k'. without (common l.own (get_or l.labels k' 0)) (get_or l.table k' 0)) 0 (length l.initial.out) l.initial.out l.k l.out
