-- The sizes are counted first, then the labels are made, then the pairs.
use native.Mathlib.Omega.{arith}
use borrow.Author.Rules.{rules}
use lib.ListN.{length}
use Rattle.rules.proofs.Layers.{labels_in}
use Rattle.scans.proofs.Ends.{finished}
use Rattle.scans.proofs.finish.Goals as goal

pub new_labels-fresh-requires : goal.new_labels-fresh-requires
new_labels-fresh-requires c =
    (c.requires.0, omega (arith, c.requires.2, labels_in (length c.args.adders.now)), omega arith, omega arith, omega arith)

pub finish_rows-rows-requires : goal.finish_rows-rows-requires
finish_rows-rows-requires c =
    let kept = c.new_labels-fresh.auto in (
      record { few = c.requires.0; inside = c.requires.1; sizes_long = search rules; sizes_are = c.count_adders.ensures },
      record { labels_long = omega arith; t_long = omega arith },
      omega (arith, c.requires.2, kept.words),
    )

pub returns : goal.returns
returns c =
    let did = c.new_labels-fresh.ensures in
    let rows = c.finish_rows-rows.ensures in
    let a = c.args in (
      λ turns. finished a.layer.now.labels _ a.words.now _ _ did.0 rows.0 c.requires.0 did.1 (omega arith) turns
          c.requires.2 did.2 rows.1,
      rows.2,
      rows.3,
    )
