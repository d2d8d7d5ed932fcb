-- The words of the effects are written before the labels change; what fires everywhere is done at once, by the word where nothing else fires.
use Prim.Native.Nat.{ℕ, ◌^◌, ◌<◌}
use mathlib.Core.Path.{refl, ap, ◌∙◌}
use mathlib.Core.List.{List}
use native.Mathlib.Omega.{arith}
use lib.ListN.{length}
use Rattle.rules.specs.Word.{bit, without}
use Rattle.rules.specs.Over.{keep}
use Rattle.rules.specs.Lists.{list_over}
use Rattle.rules.specs.Layer.{label_in}
use Rattle.words.specs.Width.{prop_width}
use Rattle.words.specs.Rows.{row_length}
use Rattle.graph.specs.Format.{actions_of}
use Rattle.rules.proofs.Layers.{length_list_over}
use Rattle.run.specs.Fire.{joined_by, settled, told}
use Rattle.run.proofs.Touches.{part_under, applied_of, applied_evenly}
use Rattle.run.proofs.Settles.{settled_long, even_done, written_done}
use Rattle.run.proofs.fire.Rows.apply.Goals as goal
use Rattle.run.proofs.fire.Rows.apply.Goals.{After-fire-did, After-join_adds, After-remove_deletes, After-settle, After-spread, After-strip, Start}

-- what the labels stand for
abbrev stood : Start → List ℕ
stood s = settled s.args.set.0 s.args.course s.args.self.now.labels

-- the effects that fire in part are some of the file's
part_below : (c : After-fire-did) → c.fire-did.result.some < 2 ^ c.args.file.now.counts.effects
unfolding actions_of
part_below c =
    let a = c.args in
    part_under (actions_of a.file.now.bytes.now a.file.now.counts) a.set.0 a.by (settled c.args.set.0 c.args.course c.args.self.now.labels) a.self.now.fired c.args.file.now.taken.ranged.effects
    c.fire-did.ensures.0 c.fire-did.ensures.1

pub returns-then-did-eq0 : goal.returns-then-did-eq0
unfolding actions_of
returns-then-did-eq0 c =
    let a = c.args in
    let did = c.fire-did.result in
    let small : (did.del < 2 ^ prop_width) × (did.add < 2 ^ prop_width) = (omega arith, omega arith) in
    even_done a.set.0 a.course a.self.now.labels did.del did.add small.0 small.1 c.requires.1 c.apply_evenly.ensures
    (applied_evenly (actions_of a.file.now.bytes.now a.file.now.counts) a.set.0 a.by (stood (goal.at.returns-then-did-eq0 c).Start) a.self.now.fired c.args.file.now.taken.ranged.effects
    c.fire-did.ensures.0 c.fire-did.ensures.1 c.if-did-eq0.true refl)

pub remove_deletes-requires : goal.remove_deletes-requires
remove_deletes-requires c = part_below (goal.at.remove_deletes-requires c).After-fire-did

pub join_adds-requires : goal.join_adds-requires
join_adds-requires c = part_below (goal.at.join_adds-requires c).After-fire-did

pub returns : goal.returns
unfolding actions_of joined_by
returns c =
    let a = c.args in
    let last = c.join_adds.new.labels in
    let cut = c.without.result.0 in
    let settled_long' = settled_long a.set.0 a.course a.self.now.labels in
    written_done a.set.0 (stood (goal.at.returns c).Start) last settled_long' (ap length c.join_adds.ensures ∙ length_list_over row_length _) c.requires.1
    (c.tell.ensures ∙ ap (λ (l : List ℕ). told a.set.0 l last) {y = stood (goal.at.returns c).Start} c.settle.ensures)
    (applied_of (actions_of a.file.now.bytes.now a.file.now.counts) a.set.0 a.by (stood (goal.at.returns c).Start) a.self.now.fired c.args.file.now.taken.ranged.effects
    c.fire-did.ensures.0 c.fire-did.ensures.1 settled_long' c.without.ensures
    (c.strip.ensures
    ∙ ap (λ (l : List ℕ). list_over (length l) (λ q. without (label_in l q) (keep (bit q cut) a.set.0))) {y = stood (goal.at.returns c).Start} c.settle.ensures)
    c.remove_deletes.ensures c.spread.ensures c.join_adds.ensures)
