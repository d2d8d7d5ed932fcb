use mathlib.Core.Path.{refl, ap, ◌∙◌}
use mathlib.Core.List.{List}
use Prim.Native.Nat.{ℕ}
use native.Mathlib.Omega.{arith}
use Rattle.words.specs.Memory.{put_at}
use Rattle.words.proofs.Writes.{list_none, list_more, list_done, list_all}
use Rattle.words.proofs.parts.put_part.Goals as goal

pub loop-k-init : goal.loop-k-init
loop-k-init c = list_none (omega arith)

pub loop-k-preserved : goal.loop-k-preserved
loop-k-preserved c = list_more c.loop-k.invariant (omega arith) refl refl

pub shape_of-dest : goal.shape_of-dest
shape_of-dest c = c.loop-k.invariant.long

pub returns : goal.returns
returns c =
    let a = c.args in
    list_done c.loop-k.invariant (omega arith) ∙ ap (λ (l : List ℕ). put_at a.to l a.dest.now) (list_all a.part.now (omega arith))
