-- The loop joins t to the word of one member after the other.
use Rattle.rules.specs.Word.{common, first}
use lib.ListN.{length}
use Rattle.words.proofs.Spreads.{Spreads}
use Rattle.words.proofs.columns.spread.Given as goal

abbrev pub invariant-loop-q : goal.invariant-loop-q
invariant-loop-q l = Spreads l.t (common (first (length l.initial.row)) l.fn.set.0) l.initial.row l.q-iterator.0 l.row
