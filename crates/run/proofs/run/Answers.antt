-- `run` meets its contract: a file that is turned away turns the run away, and one that is taken goes on to the other checks.
use mathlib.Core.Path.{◌≡◌, refl, sym, ap, subst}
use mathlib.Core.List.{List}
use Prim.Native.Nat.{ℕ}
use lib.ListN.{length}
use Rattle.graph.specs.Verdict.{laid}
use Rattle.graph.specs.declared.format.Counts.{Counts}
use Rattle.graph.proofs.Ladder.{taken_linked}
use Rattle.graph.proofs.Verdicts.{goes_on}
use Rattle.run.specs.Run.{run_taken, run_rule, idle_steps, reported, report_rule, run_verdict}
use Rattle.run.proofs.Reports.{stops, handed_back, same_report}
use Rattle.run.proofs.run.Goals as goal

pub returns-in_err-view : goal.returns-in_err-view
unfolding run_rule report_rule
returns-in_err-view c = handed_back _ _ _ _ _ c.from_residual.ensures.1 (stops _ _ _ c.in_err-view.ensures.rule)

pub returns : goal.returns
unfolding run_rule report_rule
returns c =
    let a = c.args in
    let counts = c.in_ok-view.view.counts in
    let rule = c.in_ok-view.ensures.rule in
    same_report _ (ap (λ (x : Counts). idle_steps a.file.now x a.set.0 a.list.now) (taken_linked _ _ (sym rule)).are)
    (goes_on _ (λ x. run_taken a.file.now x a.set.0 a.list.now (length a.out.now)) counts rule refl)
    (subst (λ (f : List ℕ). let v = run_taken f counts a.set.0 a.list.now (length a.out.now) in
    (run_verdict c.run_taken.result ≡ reported (idle_steps f counts a.set.0 a.list.now) v) × (c.run_taken.new.out ≡ laid v a.out.now))
    (ap (λ b. b.now) c.in_ok-view.ensures.bytes) c.run_taken.ensures)
