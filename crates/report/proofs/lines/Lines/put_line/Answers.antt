-- Three texts, one behind the other.
use native.Mathlib.Omega.{arith}
use lib.ListN.{length-append}
use Rattle.report.specs.Text.{line_text}
use Rattle.report.proofs.Texts.{spent, adds_then}
use Rattle.report.proofs.lines.Lines.put_line.Goals as goal

pub put-requires : goal.put-requires
unfolding line_text
put-requires c = record { room = grind (arith, length-append, c.requires.room) }

pub put_levels-requires : goal.put_levels-requires
unfolding line_text
put_levels-requires c = record { room = grind (arith, length-append, c.requires.room, spent c.put.ensures) }

pub put-requires-2 : goal.put-requires-2
unfolding line_text
put-requires-2 c = record { room = grind (arith, length-append, c.requires.room, spent c.put.ensures, spent c.put_levels.ensures) }

pub returns : goal.returns
unfolding line_text
returns c = adds_then c.put.ensures (adds_then c.put_levels.ensures c.put-2.ensures)
