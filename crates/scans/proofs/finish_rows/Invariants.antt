-- Each turn does one row.
use Prim.Native.Nat.{◌*◌}
use lib.ListN.{length}
use Rattle.rules.specs.Layer.{row_of}
use Rattle.words.specs.Rows.{row_length}
use Rattle.words.proofs.Writes.{Runs}
use Rattle.scans.specs.Pairs.{row_count, Alike, most_looks}
use Rattle.scans.specs.Ends.{apart_by, Joined}
use Rattle.scans.proofs.Totals.{Summing}
use Rattle.scans.proofs.finish_rows.Given as goal

abbrev pub invariant-loop-p : goal.invariant-loop-p
invariant-loop-p l =
    Joined (length l.adders) l.p l.tables.spare l.initial.t l.t l.fresh × Runs (row_of (length l.adders) (apart_by l.labels l.tables.spare l.initial.t)) (length l.adders) (length l.adders) l.initial.words l.p l.at l.words
    × Summing (Alike l.adders l.tables.live l.tables.mates l.tables.r l.tables.besides l.tables.spare) (row_count (length l.adders) l.adders l.labels l.tables.live l.tables.mates l.tables.r) 0 (length l.adders) (row_length * most_looks) l.p l.looked
