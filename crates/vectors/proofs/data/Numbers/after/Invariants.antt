-- Each number passed over has a byte at least.
use Rattle.std.proofs.Common.{◌+◌, ◌≤◌, length}
use Rattle.vectors.proofs.data.Numbers.after.Given as goal

abbrev pub invariant-loop : goal.invariant-loop
invariant-loop l = length l.rest.0.now + l.counter ≤ length l.fn.self.0.now
