-- `file::effects_offset` meets its contract.
use mathlib.Core.Path.{sym}
use Rattle.rules.proofs.Tests.{choose_held, choose_failed, is_fails, same_of, same_not}
use Rattle.graph.specs.Format.{effects_place}
use Rattle.graph.proofs.file.effects_offset.Goals as goal

pub returns-then-version-eq-PLAIN_VERSION : goal.returns-then-version-eq-PLAIN_VERSION
unfolding effects_place
returns-then-version-eq-PLAIN_VERSION c = sym (choose_held _ (same_of c.if-version-eq-PLAIN_VERSION.true))

pub returns : goal.returns
unfolding effects_place
returns c = sym (choose_failed _ _ (is_fails (same_not c.if-version-eq-PLAIN_VERSION.false)))
