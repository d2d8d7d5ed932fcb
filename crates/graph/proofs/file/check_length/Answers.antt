-- `file::check_length` meets its contract.
use mathlib.Core.Path.{sym, ap, ◌∙◌}
use Prim.Native.Nat.{ℕ}
use Rattle.graph.specs.Verdict.{refused}
use Rattle.graph.proofs.Links.{wrong_length, right_length_lem}
use Rattle.graph.proofs.file.check_length.Goals as goal

pub returns-then-file-right : goal.returns-then-file-right
returns-then-file-right c = ap (λ (x : ℕ). refused 4 x) c.right_length-right.ensures ∙ wrong_length _ _ (λ e. c.if-file-right.true (e ∙ sym c.right_length-right.ensures))

pub returns : goal.returns
returns c = right_length_lem _ _ (c.if-file-right.false ∙ c.right_length-right.ensures)
