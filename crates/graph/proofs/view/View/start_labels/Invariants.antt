-- `View::start_labels` meets its contract: the loop joins each start state to the labels of what it contains.
use mathlib.Core.Path.{◌≡◌}
use Prim.Native.Nat.{◌≤◌}
use lib.ListN.{length}
use Rattle.rules.specs.Lists.{list_over}
use Rattle.rules.specs.Shared.{start_label}
use Rattle.words.specs.Rows.{row_length}
use Rattle.graph.specs.Format.{start_of}
use Rattle.graph.proofs.view.View.start_labels.Given as goal

abbrev pub invariant-loop-s : goal.invariant-loop-s
invariant-loop-s l = (l.s ≤ l.self.counts.states) × (length l.labels ≡ length l.initial.labels) × (l.labels ≡ list_over row_length (start_label l.s (start_of l.self.bytes.now l.self.counts)))
