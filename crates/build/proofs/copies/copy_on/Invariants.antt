-- `layers::copy_on` meets its contract: each word is copied from `stride` words before, where the memory or the loop itself put it.
use Prim.Native.Nat.{◌+◌, ◌-◌, ◌%◌}
use lib.ListN.{get_or}
use Rattle.words.proofs.Writes.{Lists}
use Rattle.build.proofs.copies.copy_on.Given as goal

abbrev pub invariant-loop-i : goal.invariant-loop-i
invariant-loop-i l = Lists (λ k. get_or l.initial.words (l.to - l.stride + k % l.stride) 0) l.to l.count l.initial.words l.i l.words
