-- The name of all states, then their line.
use mathlib.Core.Path.{sym, ap, subst}
use Prim.Native.Nat.{ℕ}
use native.Mathlib.Omega.{arith}
use lib.ListN.{length-append}
use Rattle.report.specs.Text.{all_text}
use Rattle.report.specs.Lines.{line_of}
use Rattle.report.specs.Wrote.{Fits}
use Rattle.report.proofs.Texts.{fits_next, adds_then, adds_same}
use Rattle.report.proofs.lines.Lines.put_all.Goals as goal

pub put-requires : goal.put-requires
unfolding all_text
put-requires c = record { room = grind (arith, length-append, c.requires.1.room) }

pub put_line-requires : goal.put_line-requires
unfolding all_text
put_line-requires c = subst (λ (x : ℕ). Fits c.put.new.self (line_of c.args.self.now.layers x)) (sym c.first.ensures) (fits_next c.put.ensures _ c.requires.1)

pub returns : goal.returns
unfolding all_text
returns c = adds_then c.put.ensures (adds_same c.put_line.ensures (ap (line_of c.args.self.now.layers) c.first.ensures))
