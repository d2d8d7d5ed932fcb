-- `run_taken` meets its contract: each check is one of the chain, in its order, and nothing is written before the last.
use Rattle.run.specs.Run.{run_taken, idle_steps}
use Rattle.run.proofs.Sequences.{some_means, sequence_means}
use Rattle.graph.proofs.Ladder.{output_means}
use Rattle.graph.proofs.Verdicts.{goes_on}
use Rattle.run.proofs.Reports.{stops, handed_back, same_report}
use mathlib.Core.Path.{refl, sym}
use Rattle.run.proofs.run_taken.Goals as goal

pub returns-in_err-check_set : goal.returns-in_err-check_set
unfolding run_taken
returns-in_err-check_set c = handed_back _ _ _ _ _ c.from_residual.ensures.1 (stops _ _ _ c.in_err-check_set.ensures)

pub returns-in_err-check_output : goal.returns-in_err-check_output
unfolding run_taken
returns-in_err-check_output c = handed_back _ _ _ _ _ c.from_residual-in_err-check_output.ensures.1
    (goes_on _ _ _ c.in_ok-check_set.ensures (stops _ _ _ c.in_err-check_output.ensures))

pub returns-in_err-check_sequence : goal.returns-in_err-check_sequence
unfolding run_taken
returns-in_err-check_sequence c = handed_back _ _ _ _ _ c.from_residual-in_err-check_sequence.ensures.1
    (goes_on _ _ _ c.in_ok-check_set.ensures (goes_on _ _ _ c.in_ok-check_output.ensures (stops _ _ _ c.in_err-check_sequence.ensures)))

pub invariant_of-task : goal.invariant_of-task
invariant_of-task c = record {
  some = some_means _ _ (sym c.in_ok-check_set.ensures);
  known = (sequence_means _ _ (sym c.in_ok-check_sequence.ensures)).1;
}

pub run_passed-requires : goal.run_passed-requires
run_passed-requires c = output_means _ _ (sym c.in_ok-check_output.ensures)

pub returns : goal.returns
unfolding run_taken
returns c =
    let a = c.args in
    same_report _ {idle = idle_steps a.file.now.bytes.now a.file.now.counts a.set.0 a.list.now} refl
    (goes_on _ _ _ c.in_ok-check_set.ensures (goes_on _ _ _ c.in_ok-check_output.ensures (goes_on _ _ _ c.in_ok-check_sequence.ensures refl)))
    c.run_passed.ensures
