-- The loop writes one word after the other, each closed up.
use Rattle.words.proofs.Writes.{Lists}
use Rattle.words.specs.Width.{state_width}
use Rattle.rules.specs.Extract.{close_up}
use lib.ListN.{get_or}
use Prim.Native.Nat.{◌+◌}
use Rattle.extract.proofs.close.Moves.cut_words.Given as goal

abbrev pub invariant-loop-i : goal.invariant-loop-i
invariant-loop-i l = Lists (λ x. close_up state_width l.self.set (get_or l.words (l.at + x) 0)) l.at l.count l.initial.out l.i l.out
