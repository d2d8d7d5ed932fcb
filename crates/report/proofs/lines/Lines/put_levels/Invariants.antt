-- The loop adds one level behind the other.
use Rattle.report.specs.Text.{cell_text}
use Rattle.report.specs.Lines.{level_in}
use Rattle.report.proofs.Texts.{Run}
use Rattle.report.proofs.lines.Lines.put_levels.Given as goal

abbrev pub invariant-loop-p : goal.invariant-loop-p
invariant-loop-p l = Run (λ p. cell_text (level_in l.self.layers l.set.0 p)) l.self.layers.shape.props l.initial.text l.p l.text
