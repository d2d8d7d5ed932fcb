-- Two ways out.
use mathlib.Core.Path.{sym}
use native.Mathlib.Omega.{arith}
use Rattle.rules.proofs.Tests.{choose_held, choose_failed, fails_of, same_of, same_at}
use Rattle.words.proofs.parts.rows_for.Goals as goal

pub returns-then-own-eq0 : goal.returns-then-own-eq0
returns-then-own-eq0 c = (sym (choose_held _ (same_of c.if-own-eq0.true)), omega arith)

pub returns : goal.returns
returns c = (sym (choose_failed _ _ (fails_of (λ t. c.if-own-eq0.false (same_at t)))), omega arith)
