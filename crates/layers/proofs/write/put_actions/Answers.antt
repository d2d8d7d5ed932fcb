-- The labels of the actions and of the persistences, then the pairs of both.
use mathlib.Core.Path.{sym}
use native.Mathlib.Omega.{arith}
use lib.Seq.{length-take-le}
use Rattle.layers.proofs.Puts.{size_sum, actions_put}
use Rattle.layers.proofs.write.put_actions.Goals as goal

pub slice_bounds-put_words-end : goal.slice_bounds-put_words-end
slice_bounds-put_words-end c = sym (length-take-le c.args.a c.args.tables.now.live (omega arith))

pub put_words-requires : goal.put_words-requires
put_words-requires c = omega (arith, length-take-le c.args.a c.args.tables.now.live (omega arith), size_sum c.args.a c.args.n)

pub slice_bounds-put_words-end-2 : goal.slice_bounds-put_words-end-2
slice_bounds-put_words-end-2 c = sym (length-take-le c.args.n c.args.layer.now.labels (omega arith))

pub put_words-requires-2 : goal.put_words-requires-2
put_words-requires-2 c = omega (arith, length-take-le c.args.n c.args.layer.now.labels (omega arith), size_sum c.args.a c.args.n, c.put_words.auto.words)

pub put_rows-at-requires : goal.put_rows-at-requires
put_rows-at-requires c = (
  record { props = c.requires.0; effects = c.requires.1; labels_long = omega arith },
  omega (arith, size_sum c.args.a c.args.n, c.requires.2, c.put_words-2.auto.words, c.put_words.auto.words),
)

pub put_pairs-requires : goal.put_pairs-requires
put_pairs-requires c = (
  record { props = c.requires.0; labels_long = omega arith; t_long = omega arith },
  omega (arith, size_sum c.args.a c.args.n, c.requires.2, c.put_rows-at.ensures.0, c.put_rows-at.auto.words, c.put_words-2.auto.words, c.put_words.auto.words),
)

pub returns : goal.returns
returns c =
    let a = c.args in
    let t = a.tables.now in
    actions_put a.n a.a _ t.live a.layer.now.labels a.layer.now.t t.mates t.r a.words.now _ _ _ _
    (omega arith) (omega arith) c.requires.2
    c.put_words.ensures c.put_words-2.ensures c.put_rows-at.ensures.1 c.put_rows-at.ensures.0 c.put_pairs.ensures
