-- The five stages, one after the other.
use Rattle.words.proofs.Squares.{squares, turned_bits}
use borrow.Author.Rules.{rules}
use Rattle.words.proofs.turned.turn_bits.Goals as goal

pub swap_squares-requires : goal.swap_squares-requires
swap_squares-requires c = (search rules, squares.0)

pub swap_squares-requires-2 : goal.swap_squares-requires-2
swap_squares-requires-2 c = (search rules, squares.1)

pub swap_squares-requires-3 : goal.swap_squares-requires-3
swap_squares-requires-3 c = (search rules, squares.2)

pub swap_squares-requires-4 : goal.swap_squares-requires-4
swap_squares-requires-4 c = (search rules, squares.3)

pub swap_squares-requires-5 : goal.swap_squares-requires-5
swap_squares-requires-5 c = (search rules, squares.4)

pub returns : goal.returns
returns c =
    turned_bits c.args.rows.now c.requires
    c.swap_squares.ensures c.swap_squares-2.ensures c.swap_squares-3.ensures c.swap_squares-4.ensures c.swap_squares-5.ensures
