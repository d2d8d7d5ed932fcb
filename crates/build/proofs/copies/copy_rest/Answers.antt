-- The words that are left are copied from one stride back.
use native.Mathlib.Omega.{arith}
use Rattle.build.proofs.Repeats.{left_within, left_room, left_is}
use Rattle.build.proofs.copies.copy_rest.Goals as goal

pub word_count-to-requires : goal.word_count-to-requires
word_count-to-requires c = (c.requires.small, omega (arith, c.requires.within, c.requires.deep))

pub overflow_sub-word_count : goal.overflow_sub-word_count
overflow_sub-word_count c = left_within c.requires c.word_count-to.ensures c.stride.ensures.0 c.word_count.ensures

pub repeat-requires : goal.repeat-requires
repeat-requires c = left_room c.requires c.word_count-to.ensures c.stride.ensures.0 c.word_count.ensures

pub returns : goal.returns
returns c = left_is c.requires c.word_count-to.ensures c.stride.ensures.0 c.word_count.ensures _ c.repeat.ensures
