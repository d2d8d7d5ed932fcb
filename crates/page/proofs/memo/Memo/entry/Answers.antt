-- A goal of the file's propositions is looked for; any other has its entry.
use mathlib.Core.Path.{refl, sym, ap, ◌∙◌}
use native.Mathlib.Omega.{arith}
use Rattle.graph.proofs.Ladder.{goal_means}
use Rattle.page.specs.Memo.{unmet_entry}
use Rattle.level.specs.declared.layers.Layers.{Layers}
use Rattle.page.proofs.Entries.{entry_wide, entry_level, entry_without}
use Rattle.page.proofs.memo.Memo.entry.Goals as goal

pub returns-in_default : goal.returns-in_default
returns-in_default c = (entry_wide _ _ _ _ _ _ c.in_default.ensures c.args.self.now.layers.room.deep, refl, refl)

pub first_met-t-requires : goal.first_met-t-requires
first_met-t-requires c = goal_means _ _ (sym c.in-Ok.ensures)

pub returns-then-t-self : goal.returns-then-t-self
returns-then-t-self c =
    let did = c.first_met-t.ensures in
    (entry_level _ _ _ _ _ c.in-Ok.ensures did.0 (rw did.1 at c.if-t-self.true), did.1, did.2)

pub returns : goal.returns
returns c =
    let did = c.first_met-t.ensures in
    let last = c.unmet_entry.ensures in (
      last.0 ∙ ap (λ (l : Layers). unmet_entry l.shape l.depth l.words.now) did.1 ∙ entry_without _ _ _ _ _ c.in-Ok.ensures did.0 (omega (arith, ap (λ (l : Layers). l.depth) did.1, c.if-t-self.false)),
      last.1 ∙ did.1,
      last.2 ∙ did.2,
    )
