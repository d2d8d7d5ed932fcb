-- The loop joins in what the words of one place after the other differ.
use Rattle.run.proofs.Idles.{Alike}
use Rattle.run.proofs.fire.differ.Given as goal

abbrev pub invariant-loop-p : goal.invariant-loop-p
invariant-loop-p l = Alike l.xs l.ys l.differing l.p
