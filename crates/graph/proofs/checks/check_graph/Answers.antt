-- `checks::check_graph` meets its contract: depth, what was found of the set and the goal, memory.
use mathlib.Core.Path.{sym, ap, subst, ◌∙◌}
use Prim.Native.Nat.{ℕ}
use Rattle.rules.specs.Layer.{word_count}
use Rattle.rules.specs.declared.Shape.{Shape}
use Rattle.graph.specs.Checks.{graph_rule, memory_rule, Small}
use Rattle.graph.specs.Verdict.{verdict}
use Rattle.graph.proofs.Verdicts.{ends_at, goes_on}
use Rattle.graph.proofs.Ladder.{depth_means, small_of}
use Rattle.graph.proofs.checks.check_graph.Goals as goal

pub returns-in_err-check_depth : goal.returns-in_err-check_depth
unfolding graph_rule
returns-in_err-check_depth c = ends_at _ _ _ _ _ c.from_residual.ensures.1 c.in_err-check_depth.ensures

pub returns-in_err-asked : goal.returns-in_err-asked
unfolding graph_rule
returns-in_err-asked c = goes_on _ _ _ c.in_ok-check_depth.ensures
    (ends_at _ _ _ _ _ c.from_residual-in_err-asked.ensures.1 (sym (ap verdict c.in_err-asked.was)))

pub word_count-requires : goal.word_count-requires
word_count-requires c = (
  subst Small (sym c.shape.ensures) (small_of _ c.requires),
  depth_means _ (sym c.in_ok-check_depth.ensures),
)

pub returns : goal.returns
unfolding graph_rule
returns c = goes_on _ _ _ c.in_ok-check_depth.ensures (goes_on _ _ _ (sym (ap verdict c.in_ok-asked.was)) (c.check_memory.ensures
    ∙ ap (λ (x : ℕ). memory_rule x c.args.have)
    (c.word_count.ensures ∙ ap (λ (s : Shape). word_count s c.args.depth) c.shape.ensures)))
