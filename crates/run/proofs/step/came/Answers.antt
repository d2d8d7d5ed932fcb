-- The upper half of the word, and what is not in its lower half.
use mathlib.Core.Path.{ap, ◌∙◌}
use Prim.Native.Nat.{ℕ, ◌-◌, ◌%◌, ◌^◌}
use Rattle.rules.specs.Word.{union, first}
use Rattle.words.specs.Width.{prop_width}
use Rattle.run.specs.Course as C
use Rattle.run.proofs.step.came.Goals as goal

pub returns : goal.returns
unfolding C.came
returns c =
    c.union.ensures
    ∙ ap (λ (x : ℕ). union x (first prop_width - c.args.course % 2 ^ prop_width)) c.common.ensures
