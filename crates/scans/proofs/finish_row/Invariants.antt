-- Each turn does one pair.
use Prim.Native.Nat.{◌+◌, ◌-◌}
use lib.ListN.{length}
use Rattle.words.proofs.Writes.{Lists}
use Rattle.scans.specs.Pairs.{pair_count, Alike, most_looks}
use Rattle.scans.specs.Ends.{apart_by, Crossed}
use Rattle.scans.proofs.Totals.{Summing}
use Rattle.scans.proofs.finish_row.Given as goal

abbrev pub invariant-loop-q : goal.invariant-loop-q
invariant-loop-q l =
    Crossed l.p l.q l.tables.spare l.initial.t l.t l.fresh × Lists (λ k. apart_by l.labels l.tables.spare l.initial.t l.p (l.p + 1 + k)) (l.at + l.p + 1) (length l.adders - 1 - l.p) l.initial.words (l.q - (l.p + 1)) l.words
    × Summing (Alike l.adders l.tables.live l.tables.mates l.tables.r l.tables.besides l.tables.spare) (pair_count l.adders l.labels l.tables.live l.tables.mates l.tables.r l.p) (l.p + 1) (length l.adders) most_looks l.q l.looked
