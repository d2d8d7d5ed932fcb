use mathlib.Core.Path.{sym, ◌∙◌}
use Prim.Native.Nat.{◌-◌}
use native.Mathlib.Omega.{arith}
use lib.ListN.{length}
use Rattle.level.specs.Meets.{same_at}
use Rattle.level.proofs.Parts.{cut_same}
use Rattle.level.proofs.Searches.{block_words, held_from, held_block, held_blocked, held_rest}
use Rattle.level.proofs.layers.same_from.Goals as goal

pub loop-at-init : goal.loop-at-init
loop-at-init c = held_from (same_at c.args.one.now c.args.other.now) _ _ c.requires.1 c.requires.2

pub returns-then-not-same_words : goal.returns-then-not-same_words
returns-then-not-same_words c =
    held_blocked block_words c.loop-at.invariant (omega arith)
    (sym (cut_same c.args.one.now c.args.other.now c.loop-at.at block_words (omega arith) (omega arith) (omega arith) c.same_words.ensures) ∙ c.if-not-same_words.true)

pub loop-at-preserved : goal.loop-at-preserved
loop-at-preserved c =
    held_block block_words c.loop-at.invariant (omega arith)
    (sym (cut_same c.args.one.now c.args.other.now c.loop-at.at block_words (omega arith) (omega arith) (omega arith) c.same_words.ensures) ∙ c.if-not-same_words.false)

pub returns : goal.returns
returns c =
    let rest = length c.args.one.now - c.loop-at.at in
    held_rest rest c.loop-at.invariant (omega (arith, c.loop-at.invariant.within))
    (cut_same c.args.one.now c.args.other.now c.loop-at.at rest (omega arith) (omega arith) (omega (arith, c.loop-at.invariant.within)) c.same_words-2.ensures)
