-- Both words have their own bits.
use mathlib.Core.Path.{ap, ap₂, ◌∙◌}
use Prim.Native.Nat.{ℕ, ◌*◌, ◌^◌, ◌<◌}
use native.Mathlib.Nat.{mod-eq_of_lt}
use native.Mathlib.Omega.{arith}
use Rattle.rules.specs.Word.{union}
use Rattle.words.specs.Width.{prop_width, word_width}
use Rattle.run.specs.Course as C
use Rattle.run.proofs.step.pack.Goals as goal

pub returns : goal.returns
unfolding C.pack
returns c =
    let small : c.wide-2.result * 2 ^ prop_width < 2 ^ word_width = omega arith in
    ap₂ union c.wide.ensures (mod-eq_of_lt small ∙ ap (λ (x : ℕ). x * 2 ^ prop_width) c.wide-2.ensures)
