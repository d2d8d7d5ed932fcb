-- `rest` meets its contract: the file, then causes 6 to 9, then the layers.
use mathlib.Core.Path.{ap, ◌∙◌}
use mathlib.Core.List.{List}
use Prim.Native.Nat.{ℕ}
use Rattle.rules.specs.Level.{rest_of}
use Rattle.rules.specs.declared.Shape.{Shape}
use Rattle.graph.specs.Verdict.{accepted}
use Rattle.graph.proofs.Verdicts.{ends_at, goes_on}
use Rattle.level.specs.Rule.{rest_rule, rest_taken}
use Rattle.level.proofs.Answers.{of_lent}
use Rattle.level.proofs.rest.Goals as goal

pub returns-in_err-c : goal.returns-in_err-c
unfolding rest_rule
returns-in_err-c c = ends_at _ _ _ _ _ c.from_residual.ensures.1 c.in_err-c.ensures.rule

pub returns-in_err-layers : goal.returns-in_err-layers
unfolding rest_rule rest_taken
returns-in_err-layers c = goes_on _ _ _ c.in_ok-c.ensures.rule
    (ends_at _ _ _ _ _ c.from_residual-in_err-layers.ensures.1 c.in_err-layers.ensures.rule)

pub returns : goal.returns
unfolding rest_rule rest_taken
returns c = goes_on _ _ _ c.in_ok-c.ensures.rule
    (goes_on _ _ tt c.in_ok-layers.ensures.rule
    (ap accepted (c.rest_of.ensures ∙ of_lent (λ (S : Shape) (k : ℕ) (w : List ℕ). rest_of S k w) c.in_ok-layers.ensures.layers)))
