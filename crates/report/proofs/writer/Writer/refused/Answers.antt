-- Five texts, one behind the other.
use native.Mathlib.Omega.{arith}
use lib.ListN.{length-append}
use Rattle.report.specs.Text.{refused_text}
use Rattle.report.proofs.Texts.{spent, adds_then}
use Rattle.report.proofs.writer.Writer.refused.Goals as goal

pub put-requires : goal.put-requires
unfolding refused_text
put-requires c = record { room = grind (arith, length-append, c.requires.room) }

pub decimal-requires : goal.decimal-requires
unfolding refused_text
decimal-requires c = record { room = grind (arith, length-append, c.requires.room, spent c.put.ensures) }

pub put-requires-2 : goal.put-requires-2
unfolding refused_text
put-requires-2 c = record { room = grind (arith, length-append, c.requires.room, spent c.put.ensures, spent c.decimal.ensures) }

pub decimal-requires-2 : goal.decimal-requires-2
unfolding refused_text
decimal-requires-2 c = record { room = grind (arith, length-append, c.requires.room, spent c.put.ensures, spent c.decimal.ensures, spent c.put-2.ensures) }

pub put-requires-3 : goal.put-requires-3
unfolding refused_text
put-requires-3 c = record { room = grind (arith, length-append, c.requires.room, spent c.put.ensures, spent c.decimal.ensures, spent c.put-2.ensures, spent c.decimal-2.ensures) }

pub returns : goal.returns
unfolding refused_text
returns c =
    adds_then c.put.ensures
    (adds_then c.decimal.ensures (adds_then c.put-2.ensures (adds_then c.decimal-2.ensures c.put-3.ensures)))
