-- `layout::word_count` meets its contract: the strides up to the last layer, and that layer.
use mathlib.Core.Path.{sym, ap₂, ◌∙◌}
use Prim.Native.Nat.{ℕ, ◌+◌}
use Rattle.rules.proofs.Layouts.{count_stride}
use Rattle.graph.proofs.layout.word_count.Goals as goal

pub returns : goal.returns
returns c = ap₂ (λ (x y : ℕ). x + y) c.layer_start.ensures.0 c.layer_size.ensures.0 ∙ sym (count_stride _ _)
