-- Each part does what the step's law asks of it.
use mathlib.Core.Path.{refl, ap, ◌∙◌}
use mathlib.Core.List.{List}
use Prim.Native.Nat.{ℕ, ◌+◌, ◌-◌, ◌≤◌}
use native.Mathlib.Omega.{arith}
use borrow.Rule.Slice.PartMut.{same_len_mid}
use lib.ListN.{length}
use Rattle.rules.specs.Layer.{size}
use Rattle.words.specs.Rows.{cell}
use Rattle.words.proofs.Writes.{tail_length}
use Rattle.together.proofs.Rows.{parts_le, inside_lt}
use Rattle.layers.proofs.Stages.{step_made}
use Rattle.layers.proofs.step.step.Goals as goal
use Rattle.layers.proofs.step.step.Goals.{After-put_actions}

pub admit-requires : goal.admit-requires
admit-requires c =
    let w = c.requires.mating.wide in
    record {
      parts = w.parts;
      inside = λ v h. inside_lt {n = c.args.frame.props} c.args.frame.width c.args.effects.needs.now v w.inside w.props h refl;
      r_long = omega arith;
      live_long = omega arith;
    }

pub mate-requires : goal.mate-requires
mate-requires c = c.requires.mating

pub cut_rows-requires : goal.cut_rows-requires
cut_rows-requires c =
    let e = c.args.effects.listed in
    record { few = omega (arith, e.dels_long, e.few); long = omega arith }

pub put_actions-requires : goal.put_actions-requires
put_actions-requires c =
    let w = c.requires.mating.wide in
    let few = parts_le w.parts in
    (omega (arith, w.props, few), c.args.effects.listed.few, omega (arith, c.requires.place, c.requires.room))

pub gather_rows-requires : goal.gather_rows-requires
gather_rows-requires c =
    let e = c.args.effects.listed in
    record { to_long = omega arith; table_long = omega arith; few = e.adders_few; rows = e.adders_inside; parts = c.requires.mating.wide.parts }

-- the next proposition layer has room behind the action layer
room : (c : After-put_actions) → c.args.at + size c.args.frame.props ≤ length c.put_actions.new.words
room c = omega (arith, c.requires.room, c.put_actions.auto.words)

pub offset_bounds-words-at : goal.offset_bounds-words-at
offset_bounds-words-at c = omega (arith, c.requires.room)

pub slice_bounds-finish-count : goal.slice_bounds-finish-count
slice_bounds-finish-count c = omega (arith, room (goal.at.slice_bounds-finish-count c).After-put_actions)

pub slice_bounds-finish-start : goal.slice_bounds-finish-start
slice_bounds-finish-start c = omega (arith, room (goal.at.slice_bounds-finish-start c).After-put_actions)

pub finish-done-requires : goal.finish-done-requires
finish-done-requires c =
    let e = c.args.effects.listed in
    let r = room (goal.at.finish-done-requires c).After-put_actions in (
      e.adders_few,
      e.adders_inside,
      omega (arith, r, tail_length c.args.at c.put_actions.new.words (omega (arith, r)), ap size c.requires.mating.adders_long),
    )

pub shape_of-words : goal.shape_of-words
shape_of-words c =
    let at = c.args.at in
    let w = c.put_actions.new.words in
    same_len_mid at (length w - at) w c.finish-done.new.words c.finish-done.auto.words ∙ c.put_actions.auto.words

pub returns : goal.returns
returns c =
    let did = c.finish-done.ensures in
    let a = c.args in
    let e = a.effects in
    let f = a.frame in
    let kept = c.mate.ensures.0 in (
      did.2,
      λ A told del is. step_made A f.all f.props f.width f.span a.at _ _ e.needs.now e.adds.now e.dels.now e.adders.now e.interferers.now a.layer.now.labels
          a.tables.now.live a.layer.now.t a.words.now _ _ _ _ _ _ _ _ _ _ c.requires e.listed (omega arith) told del is
          (kept.live ∙ c.admit.ensures.0) (λ i q h k. ap (λ (w : List ℕ). cell w i q) kept.r ∙ c.admit.ensures.1 i q h k) c.mate.ensures.1
          c.cut_rows.ensures c.put_actions.ensures c.gather_rows.ensures did.0 did.1,
    )
