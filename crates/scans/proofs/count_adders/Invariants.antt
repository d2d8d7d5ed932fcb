-- Word after word.
use lib.ListN.{length}
use Rattle.scans.proofs.Looks.{Sized}
use Rattle.scans.proofs.count_adders.Given as goal

abbrev pub invariant-loop-p : goal.invariant-loop-p
invariant-loop-p l = Sized l.adders (length l.initial.sizes) l.sizes l.p
