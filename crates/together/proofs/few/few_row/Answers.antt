use mathlib.Core.Path.{refl, subst, sym, ◌∙◌}
use Prim.Native.Nat.{ℕ, ◌<◌, ◌^◌}
use native.Mathlib.Omega.{arith}
use lib.ListN.{length}
use Rattle.words.specs.Rows.{row_length}
use Rattle.together.proofs.Rows.{inside_lt}
use Rattle.together.proofs.FewLoops.{fews_none, fews_lowest, fews_more, fews_done}
use Rattle.together.proofs.few.few_row.Goals as goal

pub loop-j-init : goal.loop-j-init
loop-j-init c = rw c.into_iter-j-iterator.ensures.into_iter_gives (fews_none c.args.effects.listed.few c.requires.0 c.requires.1 c.requires.2)

-- a member is the number of an effect
pub bounds-effects-j : goal.bounds-effects-j
bounds-effects-j c =
    let t = c.in-Some.ensures.steps in
    omega (arith, t.is, fews_lowest c.args.effects.listed.few c.requires.0 c.loop-j.invariant t.some)

pub bounds-live-j : goal.bounds-live-j
bounds-live-j c =
    let t = c.in-Some.ensures.steps in
    omega (arith, t.is, fews_lowest c.args.effects.listed.few c.requires.0 c.loop-j.invariant t.some, c.args.effects.listed.few, c.requires.0.live_long)

pub bounds-mates-j : goal.bounds-mates-j
bounds-mates-j c =
    let t = c.in-Some.ensures.steps in
    omega (arith, t.is, fews_lowest c.args.effects.listed.few c.requires.0 c.loop-j.invariant t.some, c.args.effects.listed.few, c.loop-j.invariant.with_each.long)

pub bounds-effects-j-in-loop-j : goal.bounds-effects-j-in-loop-j
bounds-effects-j-in-loop-j c =
    let t = c.in-Some.ensures.steps in
    omega (arith, t.is, fews_lowest c.args.effects.listed.few c.requires.0 c.loop-j.invariant t.some, c.args.effects.listed.adds_long)

pub meet_at-both-requires : goal.meet_at-both-requires
meet_at-both-requires c =
    let t = c.in-Some.ensures.steps in
    let member : c.in-Some.j < length c.args.effects.needs.now = omega (arith, t.is, fews_lowest c.args.effects.listed.few c.requires.0 c.loop-j.invariant t.some) in (
      omega arith,
      subst (λ (n : ℕ). c.from.result < 2 ^ n) (sym c.requires.0.row_long)
          (inside_lt {n = row_length} row_length c.args.effects.needs.now c.in-Some.j c.args.effects.listed.needs_inside (omega arith) member c.from.ensures),
    )

pub spread-requires : goal.spread-requires
spread-requires c = omega (arith, c.loop-j.invariant.with_adders_lem.long)

pub loop-j-preserved : goal.loop-j-preserved
loop-j-preserved c =
    let t = c.in-Some.ensures.steps in
    fews_more c.args.effects.listed.few c.requires.0 c.loop-j.invariant t.some t.is c.from.ensures c.meet_at-both.ensures refl c.spread.ensures t.others

pub shape_of-mates : goal.shape_of-mates
shape_of-mates c = c.loop-j.invariant.with_each.long ∙ sym c.requires.1

pub shape_of-beside : goal.shape_of-beside
shape_of-beside c = c.loop-j.invariant.with_adders_lem.long ∙ sym c.requires.2

pub returns : goal.returns
returns c = fews_done c.loop-j.invariant (omega (arith, c.in-None.ensures.steps.0))
