-- The labels, and the pairs behind them.
use mathlib.Core.Path.{sym}
use native.Mathlib.Omega.{arith}
use lib.Seq.{length-take-le}
use Rattle.rules.proofs.Layers.{size_pairs, labels_in}
use Rattle.layers.proofs.Puts.{props_put}
use Rattle.layers.proofs.write.put_props.Goals as goal

pub slice_bounds-put_words-end : goal.slice_bounds-put_words-end
slice_bounds-put_words-end c = sym (length-take-le c.args.n c.args.labels.now (omega arith))

pub put_words-requires : goal.put_words-requires
put_words-requires c = omega (arith, length-take-le c.args.n c.args.labels.now (omega arith), labels_in c.args.n)

pub put_pairs-requires : goal.put_pairs-requires
put_pairs-requires c = (c.requires.0, omega (arith, size_pairs c.args.n, c.put_words.auto.words))

pub returns : goal.returns
returns c = props_put c.args.n c.args.labels.now c.args.t.now c.args.words.now _ _ (omega (arith, c.requires.0.props, c.requires.0.labels_long)) c.requires.1 c.requires.2
    c.put_words.ensures c.put_pairs.ensures
