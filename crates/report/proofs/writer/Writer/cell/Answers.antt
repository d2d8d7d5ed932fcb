-- A space, then the mark of the level.
use mathlib.Core.Path.{sym, ap, subst}
use Rattle.level.specs.declared.layers.Level.{Level}
use Rattle.level.specs.Rule.{level_said}
use Rattle.report.specs.Text.{cell_text}
use Rattle.report.specs.Wrote.{Fits}
use Rattle.report.proofs.Texts.{fits_next, adds_then, adds_same}
use Rattle.report.proofs.writer.Writer.cell.Goals as goal

pub decimal-requires : goal.decimal-requires
decimal-requires c = fits_next c.put.ensures _ (subst (λ (l : Level). Fits c.args.self.now (cell_text (level_said l))) c.in-At.is c.requires)

pub put-requires-in-Never : goal.put-requires-in-Never
put-requires-in-Never c = fits_next c.put.ensures _ (subst (λ (l : Level). Fits c.args.self.now (cell_text (level_said l))) c.in-Never.is c.requires)

pub put-requires-in-NotByDepth : goal.put-requires-in-NotByDepth
put-requires-in-NotByDepth c = fits_next c.put.ensures _ (subst (λ (l : Level). Fits c.args.self.now (cell_text (level_said l))) c.in-NotByDepth.is c.requires)

pub returns-in-At : goal.returns-in-At
returns-in-At c = adds_same (adds_then c.put.ensures c.decimal.ensures) (sym (ap (λ (l : Level). cell_text (level_said l)) c.in-At.is))

pub returns-in-Never : goal.returns-in-Never
returns-in-Never c = adds_same (adds_then c.put.ensures c.put-in-Never.ensures) (sym (ap (λ (l : Level). cell_text (level_said l)) c.in-Never.is))

pub returns-in-NotByDepth : goal.returns-in-NotByDepth
returns-in-NotByDepth c = adds_same (adds_then c.put.ensures c.put-in-NotByDepth.ensures) (sym (ap (λ (l : Level). cell_text (level_said l)) c.in-NotByDepth.is))
