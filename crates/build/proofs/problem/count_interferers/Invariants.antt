-- A word has at most as many members as it has bits.
use Prim.Native.Nat.{◌*◌, ◌≤◌}
use Rattle.build.proofs.problem.count_interferers.Given as goal

abbrev pub invariant-loop-set : goal.invariant-loop-set
invariant-loop-set l = l.count ≤ 64 * l.set-index
