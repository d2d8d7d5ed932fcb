-- Of a file that is turned away, the line of its refusal.
use mathlib.Core.Path.{refl, sym, ap₂, subst, ◌∙◌}
use native.Mathlib.Omega.{arith}
use Rattle.report.specs.Text.{refused_text, levels_text}
use Rattle.report.specs.Wrote.{Fits, Adds}
use Rattle.report.specs.declared.writer.Writer.{Writer}
use Rattle.report.proofs.Texts.{adds_same}
use Rattle.report.proofs.Marks.{refused_short}
use Rattle.report.proofs.FileTexts.{text_refused, away_first}
use Rattle.report.proofs.file_text.Goals as goal

pub refused-requires : goal.refused-requires
refused-requires c =
    subst (λ (w : Writer). Fits w (refused_text c.number.result c.place.result)) (sym (c.in-Err.ensures.none refl))
    (record { room = omega (arith, c.requires.1, refused_short c.number.result c.place.result (omega arith) (omega arith)) })

pub returns-in-Err : goal.returns-in-Err
returns-in-Err c =
    subst (λ (w : Writer). Adds w (levels_text c.args.file.now) c.refused.new.self) (c.in-Err.ensures.none refl)
    (adds_same c.refused.ensures (ap₂ refused_text c.number.ensures c.place.ensures ∙ text_refused _ _ _ (away_first _ _ _ c.in-Err.ensures.rule)))
