-- `file::check_version` meets its contract.
use mathlib.Core.Path.{sym, ◌∙◌}
use Rattle.graph.proofs.Links.{version_1, version_2, other_version}
use Rattle.graph.proofs.file.check_version.Goals as goal

pub returns-then-version-eq-PLAIN_VERSION : goal.returns-then-version-eq-PLAIN_VERSION
returns-then-version-eq-PLAIN_VERSION c = version_1 _ (sym c.version-version.ensures ∙ c.if-version-eq-PLAIN_VERSION.true)

pub returns-then-version-eq-EFFECTS_VERSION : goal.returns-then-version-eq-EFFECTS_VERSION
returns-then-version-eq-EFFECTS_VERSION c = let v = c.version-version.ensures in version_2 _ (λ e. c.if-version-eq-PLAIN_VERSION.false (v ∙ e)) (sym v ∙ c.if-version-eq-EFFECTS_VERSION.true)

pub returns : goal.returns
returns c = let v = c.version-version.ensures in other_version _ (λ e. c.if-version-eq-PLAIN_VERSION.false (v ∙ e)) (λ e. c.if-version-eq-EFFECTS_VERSION.false (v ∙ e))
