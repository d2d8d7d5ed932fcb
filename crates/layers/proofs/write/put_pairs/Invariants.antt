-- The loop writes one row after the other.
use Rattle.rules.specs.Layer.{row_of}
use Rattle.words.proofs.Writes.{Runs}
use Rattle.layers.specs.Write.{apart}
use Rattle.layers.proofs.write.put_pairs.Given as goal

abbrev pub invariant-loop-p : goal.invariant-loop-p
invariant-loop-p l = Runs (row_of l.n (apart l.labels l.t)) l.to l.n l.initial.words l.p l.at l.words
