-- The state's number, then its line.
use mathlib.Core.Path.{sym, ap, subst}
use Prim.Native.Nat.{ℕ}
use native.Mathlib.Omega.{arith}
use lib.ListN.{length-append}
use Rattle.report.specs.Text.{state_text}
use Rattle.report.specs.Lines.{line_of}
use Rattle.report.specs.Wrote.{Fits}
use Rattle.report.proofs.Texts.{fits_next, adds_then, adds_same}
use Rattle.report.proofs.lines.Lines.put_state.Goals as goal

pub decimal-requires : goal.decimal-requires
unfolding state_text
decimal-requires c = record { room = grind (arith, length-append, c.requires.1.room) }

pub put_line-requires : goal.put_line-requires
unfolding state_text
put_line-requires c = subst (λ (x : ℕ). Fits c.decimal.new.self (line_of c.args.self.now.layers x)) (sym c.single.ensures) (fits_next c.decimal.ensures _ c.requires.1)

pub returns : goal.returns
unfolding state_text
returns c = adds_then c.decimal.ensures (adds_same c.put_line.ensures (ap (line_of c.args.self.now.layers) c.single.ensures))
