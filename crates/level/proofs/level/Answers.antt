-- `level` meets its contract: the file, then causes 6 to 9, then the layers.
use mathlib.Core.Path.{ap, ◌∙◌}
use mathlib.Core.List.{List}
use Prim.Native.Nat.{ℕ}
use lib.ListN.{length}
use Rattle.rules.specs.Level.{level_of}
use Rattle.rules.specs.declared.Shape.{Shape}
use Rattle.graph.specs.Verdict.{Verdict, accepted}
use Rattle.graph.specs.Checks.{graph_rule}
use Rattle.graph.proofs.Verdicts.{ends_at, goes_on}
use Rattle.level.specs.Rule.{level_rule, level_taken}
use Rattle.level.proofs.Answers.{of_lent}
use Rattle.level.proofs.level.Goals as goal

pub returns-in_err-c : goal.returns-in_err-c
unfolding level_rule
returns-in_err-c c = ends_at _ _ _ _ _ c.from_residual.ensures.1 c.in_err-c.ensures.rule

pub returns-in_err-layers : goal.returns-in_err-layers
unfolding level_rule level_taken
returns-in_err-layers c = goes_on _ _ _ c.in_ok-c.ensures.rule
    (ends_at _ _ _ _ _ c.from_residual-in_err-layers.ensures.1 (c.in_err-layers.ensures.rule ∙ (ap (λ (v : Verdict (Unit {0})). graph_rule c.in_ok-c.field-0.counts c.args.depth v (length c.args.words.now)) c.check_asked.ensures)))

pub returns : goal.returns
unfolding level_rule level_taken
returns c = goes_on _ _ _ c.in_ok-c.ensures.rule
    (goes_on _ _ tt (c.in_ok-layers.ensures.rule ∙ (ap (λ (v : Verdict (Unit {0})). graph_rule c.in_ok-c.field-0.counts c.args.depth v (length c.args.words.now)) c.check_asked.ensures))
    (ap accepted (c.level.ensures ∙ of_lent (λ (S : Shape) (k : ℕ) (w : List ℕ). level_of S k c.args.set.0 c.args.goal.0 w) c.in_ok-layers.ensures.layers)))
