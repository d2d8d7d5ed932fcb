use borrow.Author.Rules.{rules}
use native.Mathlib.Omega.{arith}
use Rattle.report.proofs.Texts.{run_none, run_fits, run_more, run_done}
use Rattle.report.proofs.lines.Lines.put_states.Goals as goal

pub loop-s-init : goal.loop-s-init
loop-s-init c = run_none c.requires.1

pub put_state-requires : goal.put_state-requires
put_state-requires c = (omega arith, run_fits c.loop-s.invariant (search rules))

pub loop-s-preserved : goal.loop-s-preserved
loop-s-preserved c = run_more c.loop-s.invariant (search rules) c.put_state.ensures

pub returns : goal.returns
returns c = run_done c.loop-s.invariant (search rules)
