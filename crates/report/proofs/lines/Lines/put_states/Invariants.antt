-- The loop adds one line behind the other.
use Rattle.report.specs.Lines.{state_of}
use Rattle.report.proofs.Texts.{Run}
use Rattle.report.proofs.lines.Lines.put_states.Given as goal

abbrev pub invariant-loop-s : goal.invariant-loop-s
invariant-loop-s l = Run (state_of l.self.layers) l.states l.initial.text l.s l.text
