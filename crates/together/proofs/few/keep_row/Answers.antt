-- The row is copied and cleared.
use native.Mathlib.Omega.{arith}
use Rattle.together.proofs.Rows.{keep_put}
use Rattle.together.proofs.few.keep_row.Goals as goal

pub returns : goal.returns
returns c =
    keep_put c.args.r.now c.args.del c.requires.0.whole (omega arith) c.requires.0.inside c.requires.2
    c.join_row.ensures c.clear_cells.ensures
