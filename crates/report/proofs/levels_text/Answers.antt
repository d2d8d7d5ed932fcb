-- Room for the longest text is asked for first; then any file has a text.
use mathlib.Core.Path.{refl, sym, ap}
use mathlib.Core.List.{List}
use Prim.Native.Nat.{ℕ}
use native.Mathlib.Omega.{arith}
use borrow.Author.Rules.{rules}
use denote.MutBor.{MutBor}
use lib.ListN.{length}
use Rattle.graph.proofs.Ladder.{output_means}
use Rattle.graph.proofs.Verdicts.{stops, laid_away}
use Rattle.report.specs.Text.{text_rule}
use Rattle.report.proofs.FileTexts.{text_laid}
use Rattle.report.proofs.levels_text.Goals as goal

pub returns-in_err-check_output : goal.returns-in_err-check_output
unfolding text_rule
returns-in_err-check_output c = laid_away _ _ _ _ c.from_residual.ensures.1 (stops _ _ _ c.in_err-check_output.ensures)

pub file_text-requires : goal.file_text-requires
file_text-requires c = (refl, omega (arith, output_means _ _ (sym c.in_ok-check_output.ensures), c.new-text.ensures.1, ap (λ (m : MutBor (List ℕ)). length m.now) c.new-text.ensures.0))

pub returns : goal.returns
returns c = text_laid _ _ _ _ _ (sym c.in_ok-check_output.ensures) c.new-text.ensures.1 (ap (λ (m : MutBor (List ℕ)). m.now) c.new-text.ensures.0) c.file_text.ensures (search rules)
