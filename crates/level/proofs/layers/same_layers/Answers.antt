-- A few words are compared all at once; of more, the first and then the others.
use mathlib.Core.Path.{sym, ◌∙◌}
use native.Mathlib.Omega.{arith}
use lib.ListN.{length}
use Rattle.level.specs.Meets.{same_at}
use Rattle.level.proofs.Parts.{cut_same}
use Rattle.level.proofs.Searches.{front_words, held_none, held_block, held_blocked, held_so}
use Rattle.level.proofs.layers.same_layers.Goals as goal

pub returns-then-not-same_words : goal.returns-then-not-same_words
returns-then-not-same_words c =
    held_blocked {f = same_at c.args.one.now c.args.other.now} front_words held_none (omega arith)
    (sym (cut_same c.args.one.now c.args.other.now 0 front_words {k = front_words} {m = front_words} (omega arith) (omega arith) (omega arith) c.same_words-2.ensures) ∙ c.if-not-same_words.true)

pub same_from-requires : goal.same_from-requires
same_from-requires c = (
  c.requires,
  omega arith,
  held_so (held_block {f = same_at c.args.one.now c.args.other.now} {n = length c.args.one.now} front_words held_none (omega arith)
      (sym (cut_same c.args.one.now c.args.other.now 0 front_words {k = front_words} {m = front_words} (omega arith) (omega arith) (omega arith) c.same_words-2.ensures) ∙ c.if-not-same_words.false)),
)
