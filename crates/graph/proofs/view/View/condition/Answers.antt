-- `View::condition` meets its contract.
use mathlib.Core.Path.{ap, ap₂, ◌∙◌}
use Prim.Native.Nat.{ℕ}
use Rattle.rules.specs.Word.{union}
use Rattle.rules.specs.Domain.{condition}
use Rattle.graph.specs.Format.{actions_of}
use Rattle.graph.proofs.view.View.condition.Goals as goal

pub returns : goal.returns
unfolding condition
returns c = ap₂ (λ (x y : ℕ). union x y) (c.precondition.ensures ∙ ap (actions_of c.args.self.now.bytes.now c.args.self.now.counts).pre c.owner.ensures.0) c.antecedent.ensures
