use native.Mathlib.Omega.{arith}
use borrow.Author.Rules.{rules}
use Rattle.extract.specs.Moves.{piece_words}
use Rattle.extract.proofs.Cuts.{front_none, front_cut, front_more, front_done}
use Rattle.extract.proofs.close.Moves.cut.Goals as goal

pub loop-at-init : goal.loop-at-init
loop-at-init c = front_none (search rules)

pub overflow_add-at : goal.overflow_add-at
overflow_add-at c = omega (arith, c.loop-at.invariant.within)

pub cut_piece-requires : goal.cut_piece-requires
cut_piece-requires c =
    let l = c.loop-at.invariant in
    (front_cut l, omega arith, omega (arith, l.long))

pub loop-at-preserved : goal.loop-at-preserved
loop-at-preserved c = front_more c.loop-at.invariant piece_words (omega arith) c.cut_piece.ensures

pub overflow_sub-count : goal.overflow_sub-count
overflow_sub-count c = c.loop-at.invariant.within

pub cut_words-requires : goal.cut_words-requires
cut_words-requires c =
    let l = c.loop-at.invariant in
    (omega (arith, l.within), omega (arith, l.within, l.long))

pub shape_of-out : goal.shape_of-out
shape_of-out c =
    let l = c.loop-at in
    (front_more l.invariant _ (omega (arith, l.invariant.within)) c.cut_words.ensures).long

pub returns : goal.returns
returns c =
    let l = c.loop-at in
    front_done (front_more l.invariant _ (omega (arith, l.invariant.within)) c.cut_words.ensures) (omega (arith, l.invariant.within))
