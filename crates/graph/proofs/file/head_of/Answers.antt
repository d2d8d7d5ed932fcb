-- `file::head_of` meets its contract.
use mathlib.Core.Path.{sym}
use Rattle.rules.proofs.Tests.{choose_held, choose_failed, is_fails, same_of, same_not}
use Rattle.graph.specs.File.{head_of}
use Rattle.graph.proofs.file.head_of.Goals as goal

pub returns-then-version-eq-EFFECTS_VERSION : goal.returns-then-version-eq-EFFECTS_VERSION
unfolding head_of
returns-then-version-eq-EFFECTS_VERSION c = sym (choose_held _ (same_of c.if-version-eq-EFFECTS_VERSION.true))

pub returns : goal.returns
unfolding head_of
returns c = sym (choose_failed _ _ (is_fails (same_not c.if-version-eq-EFFECTS_VERSION.false)))
