-- `check_numbers` meets its contract: where the greatest number is known, all are, and else the first that is not is looked for.
use mathlib.Core.Path.{sym, ◌∙◌}
use native.Mathlib.Omega.{arith}
use Rattle.run.proofs.Sequences.{all_known, unknown_at, unknown_none}
use Rattle.run.proofs.check_numbers.Goals as goal

pub returns-then-greatest-actions : goal.returns-then-greatest-actions
returns-then-greatest-actions c = all_known _ _ (omega (arith, c.greatest.ensures))

pub returns-in-Some : goal.returns-in-Some
returns-in-Some c = unknown_at _ _ _ (sym c.first_unknown.ensures ∙ c.in-Some.is)

pub returns-in-None : goal.returns-in-None
returns-in-None c = unknown_none _ _ (sym c.first_unknown.ensures ∙ c.in-None.is)
