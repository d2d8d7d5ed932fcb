-- What is deleted and not added, and above it what is added.
use mathlib.Core.Path.{ap, ◌∙◌}
use Prim.Native.Nat.{ℕ}
use Rattle.run.specs.Course as C
use Rattle.run.proofs.step.brings.Goals as goal

pub returns : goal.returns
unfolding C.brings
returns c = c.pack.ensures ∙ ap (λ (x : ℕ). C.pack x c.args.add.0) c.without.ensures
