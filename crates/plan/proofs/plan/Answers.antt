-- The file's causes first; past them the rest of the chain.
use mathlib.Core.Path.{◌≡◌, refl, ap, subst}
use mathlib.Core.List.{List}
use Prim.Native.Nat.{ℕ}
use lib.ListN.{length}
use Rattle.graph.specs.Verdict.{laid}
use Rattle.graph.proofs.Verdicts.{goes_on}
use Rattle.plan.specs.Plan.{plan_verdict, made, plan_taken, plan_rule}
use Rattle.plan.proofs.Answers.{stops, handed_back, equal_rule_lem}
use Rattle.plan.proofs.plan.Goals as goal

pub returns-in_err-view : goal.returns-in_err-view
unfolding plan_rule
returns-in_err-view c = handed_back _ _ _ _ c.from_residual.ensures.1 (stops _ _ _ c.in_err-view.ensures.rule)

pub returns : goal.returns
unfolding plan_rule
returns c =
    let a = c.args in
    let counts = c.in_ok-view.view.counts in
    equal_rule_lem a.out.now _ _
    (goes_on _ (λ x. plan_taken a.file.now x a.depth a.set.0 a.goal.0 a.words.now (length a.out.now)) counts c.in_ok-view.ensures.rule refl)
    (subst (λ (f : List ℕ). let v = plan_taken f counts a.depth a.set.0 a.goal.0 a.words.now (length a.out.now) in
    (plan_verdict c.plan_taken.result ≡ made v) × (c.plan_taken.new.out ≡ laid v a.out.now))
    (ap (λ b. b.now) c.in_ok-view.ensures.bytes) c.plan_taken.ensures)
