use borrow.Author.Rules.{rules}
use mathlib.Core.Path.{sym, ap, subst}
use Rattle.rules.specs.Level.{Level}
use Rattle.report.specs.Text.{cell_text, cells_text}
use Rattle.report.specs.Wrote.{Fits}
use Rattle.report.proofs.Texts.{run_none, run_fits, run_more, run_done, adds_same}
use Rattle.report.proofs.lines.Lines.put_levels.Goals as goal

pub loop-p-init : goal.loop-p-init
unfolding cells_text
loop-p-init c = run_none c.requires

pub cell-requires : goal.cell-requires
cell-requires c = subst (λ (l : Level). Fits c.loop-p.text (cell_text l)) (sym c.level.ensures) (run_fits c.loop-p.invariant (search rules))

pub loop-p-preserved : goal.loop-p-preserved
loop-p-preserved c = run_more c.loop-p.invariant (search rules) (adds_same c.cell.ensures (ap (λ (l : Level). cell_text l) c.level.ensures))

pub returns : goal.returns
unfolding cells_text
returns c = run_done c.loop-p.invariant (search rules)
