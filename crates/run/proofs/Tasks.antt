-- A task is a run that has passed its checks.
-- Assumes nothing.
use Prim.Native.Nat.{ℕ, ◌≤◌}
use mathlib.Core.List.{List}
use lib.ListN.{length}
use Rattle.run.specs.Course.{Checked}
use Rattle.run.specs.declared.task.Task.{Task}

pub checked : (t : Task) {out : List ℕ} → t.file.counts.states ≤ length out → Checked t.file.bytes.now t.file.counts t.set.0 t.list.now out
checked t fits = record { taken = t.file.taken; some = t.some; known = t.known; fits = fits }
