-- The loop writes one word after the other, each closed up.
use Rattle.words.proofs.Writes.{Lists}
use Rattle.words.specs.Width.{state_width}
use Rattle.rules.specs.Extract.{close_up}
use lib.ListN.{get_or}
use Prim.Native.Nat.{◌+◌}
use Rattle.extract.proofs.close.Runs.cut.Given as goal

abbrev pub invariant-loop-j : goal.invariant-loop-j
invariant-loop-j l = Lists (λ x. close_up state_width l.self.set (get_or l.words (0 + x) 0)) 0 l.count l.initial.out l.j l.out
