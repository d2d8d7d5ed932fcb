-- The part is lent, and comes back with the words.
use mathlib.Core.Path.{refl}
use lib.ListN.{length}
use Rattle.words.proofs.Writes.{put_part}
use Rattle.layers.proofs.write.put_words.Goals as goal

pub returns : goal.returns
returns c = put_part c.args.to (length c.args.from.now) c.args.from.now c.args.words.now _ refl c.copy_from_slice.ensures.after
