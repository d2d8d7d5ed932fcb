use mathlib.Core.Path.{ap, ◌∙◌}
use Prim.Native.Nat.{ℕ}
use native.Mathlib.Omega.{arith}
use lib.ListN.{get_or}
use Rattle.words.specs.declared.sets.States.{States}
use Rattle.level.specs.declared.layers.Layers.{Layers}
use Rattle.words.proofs.Writes.{list_none, list_more, list_done}
use Rattle.page.specs.Memo.{entry_in}
use Rattle.page.proofs.put_entries.Goals as goal

pub loop-i-init : goal.loop-i-init
loop-i-init c = (list_none (omega arith), c.new-memo.ensures.0, c.new-memo.ensures.1)

pub loop-i-preserved : goal.loop-i-preserved
loop-i-preserved c =
    let did = c.entry.ensures in
    let i = c.loop-i.invariant in
    let asked : ℕ = get_or c.args.goals.now c.loop-i.i 0 in (
      list_more i.0 (omega arith) (omega arith)
          (did.0 ∙ ap (λ (l : Layers). entry_in l.shape l.depth c.loop-i.memo.set.0 asked l.words.now) i.1
          ∙ ap (λ (s : States). entry_in c.args.layers.shape c.args.layers.depth s.0 asked c.args.layers.words.now) i.2),
      did.1 ∙ i.1,
      did.2 ∙ i.2,
    )

pub returns : goal.returns
returns c = list_done c.loop-i.invariant.0 (omega arith)
