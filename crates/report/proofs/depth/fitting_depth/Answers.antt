-- `fitting_depth` meets its contract: the file's causes, then the words of depth 0 decide whether there is a depth.
use mathlib.Core.Path.{◌≡◌, sym, ap, subst, ◌∙◌}
use Prim.Native.Nat.{ℕ, ◌≤◌}
use Rattle.rules.specs.Layer.{word_count}
use Rattle.rules.specs.declared.Shape.{Shape}
use Rattle.graph.specs.Verdict.{accepted}
use Rattle.graph.specs.Format.{shape_in}
use Rattle.graph.specs.Checks.{memory_rule, Small}
use Rattle.graph.proofs.Ladder.{small_of, memory_means}
use Rattle.graph.proofs.Verdicts.{ends_at, goes_on}
use Rattle.report.specs.Depth.{depth_for, fitting_rule, fitting_taken}
use Rattle.report.proofs.depth.fitting_depth.Goals as goal
use Rattle.report.proofs.depth.fitting_depth.Goals.{After-word_count}

-- the words of depth 0
zero_words : (c : After-word_count) → c.word_count.result ≡ word_count (shape_in c.in_ok-check_file.field-0.counts) 0
zero_words c = c.word_count.ensures ∙ ap (λ (s : Shape). word_count s 0) c.shape-shape.ensures

pub returns-in_err-check_file : goal.returns-in_err-check_file
unfolding fitting_rule
returns-in_err-check_file c = ends_at _ _ _ _ _ c.from_residual.ensures.1 c.in_err-check_file.ensures.rule

pub returns-in_err-check_memory : goal.returns-in_err-check_memory
unfolding fitting_rule fitting_taken
returns-in_err-check_memory c = goes_on _ _ _ c.in_ok-check_file.ensures.rule
    (ends_at _ _ _ _ _ c.from_residual-in_err-check_memory.ensures.1
    (c.in_err-check_memory.ensures ∙ ap (λ (x : ℕ). memory_rule x c.args.room) (zero_words (goal.at.returns-in_err-check_memory c).After-word_count)))

pub depth_for-requires : goal.depth_for-requires
depth_for-requires c = let shape = sym c.shape-shape.ensures in (
  subst Small shape (small_of _ c.in_ok-check_file.field-0.taken.ranged),
  subst (λ (s : Shape). 1 ≤ s.props) shape c.in_ok-check_file.field-0.taken.ranged.some_props,
  subst (λ (x : ℕ). x ≤ c.args.room) c.word_count.ensures (memory_means _ _ (sym c.in_ok-check_memory.ensures)),
)

pub returns : goal.returns
unfolding fitting_rule fitting_taken
returns c = goes_on _ _ _ c.in_ok-check_file.ensures.rule
    (goes_on _ _ tt
    (c.in_ok-check_memory.ensures ∙ ap (λ (x : ℕ). memory_rule x c.args.room) (zero_words (goal.at.returns c).After-word_count))
    (ap accepted (c.depth_for.ensures.0 ∙ ap (λ (s : Shape). depth_for s c.args.room) c.shape-shape.ensures)))
