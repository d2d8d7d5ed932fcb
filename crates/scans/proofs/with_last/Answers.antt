-- One more where something is left.
use mathlib.Core.Path.{sym, ◌∙◌}
use native.Mathlib.Numerals.{add-one}
use Rattle.rules.specs.Scan.{scan_at}
use Rattle.scans.proofs.Looks.{last_none, last_some}
use Rattle.scans.proofs.with_last.Goals as goal

pub returns-then-left-eq0 : goal.returns-then-left-eq0
returns-then-left-eq0 c = sym (last_none (scan_at c.args.left c.args.looked) c.if-left-eq0.true)

pub returns : goal.returns
returns c = add-one _ ∙ sym (last_some (scan_at c.args.left c.args.looked) c.if-left-eq0.false)
