-- All there is, less what goes.
use mathlib.Core.Path.{ap, ◌∙◌}
use Prim.Native.Nat.{ℕ, ◌-◌}
use Rattle.rules.specs.Word.{first}
use Rattle.words.specs.Width.{word_width}
use Rattle.run.specs.Course as C
use Rattle.run.proofs.step.leaves.Goals as goal

pub returns : goal.returns
unfolding C.leaves
returns c = ap (λ (x : ℕ). first word_width - x) (c.pack.ensures ∙ ap (C.pack c.args.add.0) c.without.ensures)
