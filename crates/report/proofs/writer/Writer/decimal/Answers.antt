-- What the library's digits are, ours are.
use mathlib.Core.Path.{◌≡◌, sym, subst, ◌∙◌}
use native.Mathlib.Omega.{arith}
use Rattle.report.specs.Decimal.{decimal}
use Rattle.report.specs.Wrote.{Fits}
use Rattle.report.proofs.Texts.{decimal_is, adds_same}
use Rattle.report.proofs.writer.Writer.decimal.Goals as goal
use Rattle.report.proofs.writer.Writer.decimal.Goals.{After-as_bytes}

digits : (c : After-as_bytes) → c.as_bytes.result.now ≡ decimal c.args.n
digits c = c.as_bytes.ensures.value ∙ c.format.ensures.text ∙ decimal_is c.args.n (omega arith)

pub put-requires : goal.put-requires
put-requires c = subst (Fits c.args.self.now) (sym (digits (goal.at.put-requires c).After-as_bytes)) c.requires

pub returns : goal.returns
returns c = adds_same c.put.ensures (digits (goal.at.returns c).After-as_bytes)
