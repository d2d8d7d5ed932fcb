-- `level_share` meets its contract: the file, then causes 6, 8, 18 and 9, then the first layer where the weight is enough.
use mathlib.Core.Path.{◌≡◌, ap, sym, subst, ◌∙◌}
use mathlib.Core.List.{List}
use Prim.Native.Nat.{ℕ, ◌^◌, ◌<◌}
use lib.ListN.{length}
use Rattle.rules.specs.Level.{Level, level_by}
use Rattle.rules.specs.Share.{share_of, share_level}
use Rattle.rules.specs.declared.Shape.{Shape}
use Rattle.graph.specs.Verdict.{Verdict, accepted, verdict}
use Rattle.graph.specs.Checks.{graph_rule}
use Rattle.graph.proofs.Ladder.{graph_means}
use Rattle.graph.proofs.Verdicts.{ends_at, goes_on}
use Rattle.level.proofs.Answers.{of_lent}
use Rattle.share.specs.Rule.{wanted_rule, share_taken, share_rule}
use Rattle.share.proofs.Totals.{wanted_is, goal_passed, weighed_of}
use Rattle.share.proofs.level_share.Goals as goal
use Rattle.share.proofs.level_share.Goals.{After-check_wanted-wanted, In_ok-layers}

-- what was found of the goal and the weights is their rule
wanted : (c : After-check_wanted-wanted) {v : Verdict (Unit {0})}
    → v ≡ graph_rule c.in_ok-c.field-0.counts c.args.depth (verdict c.check_wanted-wanted.result) (length c.args.words.now)
    → v ≡ graph_rule c.in_ok-c.field-0.counts c.args.depth (wanted_rule c.in_ok-c.field-0.counts c.args.goal.0 (share_of c.args.weights.now c.args.numerator c.args.denominator)) (length c.args.words.now)
wanted c e =
    let a = c.args in
    e ∙ ap (λ (x : Verdict (Unit {0})). graph_rule c.in_ok-c.field-0.counts a.depth x (length a.words.now))
    (c.check_wanted-wanted.ensures ∙ wanted_is c.in_ok-c.field-0.counts a.goal.0 a.weights.now a.numerator a.denominator c.total_for-total.ensures.0)

pub returns-in_err-c : goal.returns-in_err-c
unfolding share_rule
returns-in_err-c c = ends_at _ _ _ _ _ c.from_residual.ensures.1 c.in_err-c.ensures.rule

pub returns-in_err-layers : goal.returns-in_err-layers
unfolding share_rule share_taken
returns-in_err-layers c = goes_on _ _ _ c.in_ok-c.ensures.rule
    (ends_at _ _ _ _ _ c.from_residual-in_err-layers.ensures.1 (wanted (goal.at.returns-in_err-layers c).After-check_wanted-wanted c.in_err-layers.ensures.rule))

-- so this has passed
passed : (c : In_ok-layers) → wanted_rule c.in_ok-c.field-0.counts c.args.goal.0 (share_of c.args.weights.now c.args.numerator c.args.denominator) ≡ accepted tt
passed c =
    let a = c.args in
    sym (c.check_wanted-wanted.ensures ∙ wanted_is c.in_ok-c.field-0.counts a.goal.0 a.weights.now a.numerator a.denominator c.total_for-total.ensures.0)
    ∙ (graph_means _ _ _ _ (sym c.in_ok-layers.ensures.rule)).fine

pub invariant_of-share : goal.invariant_of-share
invariant_of-share c = record {
  weighed = weighed_of _ _ _ (passed (goal.at.invariant_of-share c).In_ok-layers) c.in_ok-c.field-0.taken.ranged.states c.total_for-total.ensures.0 c.total_for-total.ensures.1;
}

pub first_enough-t-requires : goal.first_enough-t-requires
first_enough-t-requires c =
    subst (λ (x : Shape). c.args.goal.0 < 2 ^ x.props) (sym c.in_ok-layers.ensures.layers.1) (goal_passed _ _ _ (passed (goal.at.first_enough-t-requires c).In_ok-layers))

pub returns : goal.returns
unfolding share_rule share_taken share_level
returns c =
    let a = c.args in
    let by : Shape → ℕ → List ℕ → Level = λ S k w. share_level S k (share_of a.weights.now a.numerator a.denominator) a.goal.0 w in
    goes_on _ _ _ c.in_ok-c.ensures.rule
    (goes_on _ _ tt (wanted (goal.at.returns c).After-check_wanted-wanted c.in_ok-layers.ensures.rule)
    (ap accepted (c.level_by.ensures
    ∙ ap (λ (t : ℕ). level_by c.in_ok-layers.layers.shape c.in_ok-layers.layers.depth c.in_ok-layers.layers.words.now t) c.first_enough-t.ensures
    ∙ of_lent by c.in_ok-layers.ensures.layers)))
