-- The word is asked for the precondition of that step.
use Prim.Native.Nat.{ℕ}
use mathlib.Core.Path.{ap, ◌∙◌}
use lib.ListN.{get_or}
use Rattle.rules.specs.Test.{fails, same}
use Rattle.rules.specs.Word.{common}
use Rattle.run.proofs.Idles.{as_fails}
use Rattle.run.proofs.even.lacking.Goals as goal

pub returns : goal.returns
unfolding same
returns c =
    let a = c.args in
    as_fails _ ∙ ap (λ (x : ℕ). fails (same (common a.led.course (get_or a.evens.now.needs.now x 0)) 0)) c.byte-a.ensures.0
