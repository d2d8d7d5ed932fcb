-- Each block is copied from `stride` words before, where the memory or the loop itself put it.
use Prim.Native.Nat.{◌+◌, ◌-◌, ◌%◌}
use lib.ListN.{get_or}
use Rattle.words.proofs.Writes.{Lists}
use Rattle.build.proofs.copies.copy_far.Given as goal

abbrev pub invariant-loop-done : goal.invariant-loop-done
invariant-loop-done l = Lists (λ k. get_or l.initial.words (l.to - l.stride + k % l.stride) 0) l.to l.count l.initial.words l.done l.words

abbrev pub decreases-loop-done : goal.decreases-loop-done
decreases-loop-done l = l.count - l.done
