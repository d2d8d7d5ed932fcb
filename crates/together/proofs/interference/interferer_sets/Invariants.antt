-- The loop writes one set after the other, and they fill the memory.
use lib.ListN.{length}
use Rattle.together.specs.Interference.{interferers_of}
use Rattle.words.proofs.Writes.{Lists}
use Rattle.together.proofs.interference.interferer_sets.Given as goal

abbrev pub invariant-loop-i : goal.invariant-loop-i
invariant-loop-i l = Lists (interferers_of l.sets.needs.now l.sets.adds.now l.sets.dels.now l.sets.owners.now) 0 (length l.sets.needs.now) l.initial.interferers l.i l.interferers
