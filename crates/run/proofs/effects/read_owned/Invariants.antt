-- The loop joins each effect to the word of its action.
use mathlib.Core.Path.{◌≡◌}
use Prim.Native.Nat.{◌≤◌}
use lib.ListN.{length}
use Rattle.rules.specs.Word.{single}
use Rattle.rules.specs.Lists.{list_over}
use Rattle.rules.specs.Shared.{start_label}
use Rattle.words.specs.Rows.{row_length}
use Rattle.graph.specs.Format.{actions_of}
use Rattle.run.proofs.effects.read_owned.Given as goal

abbrev pub invariant-loop-e : goal.invariant-loop-e
invariant-loop-e l =
    (l.e ≤ l.file.counts.effects) × (length l.owned ≡ row_length) × (l.owned ≡ list_over row_length (start_label l.e (λ k. single ((actions_of l.file.bytes.now l.file.counts).owner k))))
