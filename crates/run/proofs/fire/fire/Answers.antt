use Rattle.run.proofs.Touches.{firing_none, firing_more, firing_done, changes_done}
use Rattle.run.specs.Fire.{settled, having, fired_in, fired_by}
use Rattle.graph.specs.Format.{actions_of}
use Rattle.words.proofs.MemberLoops.{lowest_lt}
use Rattle.rules.specs.Lists.{list_over}
use Rattle.rules.specs.Test.{choose}
use Rattle.rules.specs.Word.{bit}
use Prim.Native.Nat.{ℕ, ◌<◌}
use mathlib.Core.Path.{ap, ◌∙◌}
use lib.ListN.{get_or}
use native.Mathlib.Omega.{arith}
use Rattle.run.proofs.fire.fire.Goals as goal
use Rattle.run.proofs.fire.fire.Goals.{In-Some}

pub loop-e-init : goal.loop-e-init
unfolding actions_of
loop-e-init c = let p = c.requires in
    rw c.into_iter-e-iterator.ensures.into_iter_gives
    (firing_none (omega (arith, c.args.file.now.taken.ranged.effects)) (omega (arith, c.args.file.now.taken.ranged.effects, c.told-fired)) p.0)

-- the next effect is one of the file's
named : (c : In-Some) → c.in-Some.e < c.args.file.now.counts.effects
unfolding actions_of
named c =
    let m = c.loop-e.invariant.changes in
    let t = c.in-Some.ensures.steps in
    omega (arith, t.is, lowest_lt _ c.loop-e.e-iterator.0 m.few m.inside t.some)

pub antecedent-requires : goal.antecedent-requires
antecedent-requires c = named (goal.at.antecedent-requires c).In-Some

pub firing-t-requires : goal.firing-t-requires
firing-t-requires c = c.requires.1

pub offset_bounds-fired-e : goal.offset_bounds-fired-e
unfolding actions_of
offset_bounds-fired-e c = let m = c.loop-e.invariant.changes in omega (arith, named (goal.at.offset_bounds-fired-e c).In-Some, m.room, m.long)

pub bounds-fired-e : goal.bounds-fired-e
unfolding actions_of
bounds-fired-e c = let m = c.loop-e.invariant.changes in omega (arith, named (goal.at.bounds-fired-e c).In-Some, m.room, m.long)

pub with_effect-did-requires : goal.with_effect-did-requires
with_effect-did-requires c = named (goal.at.with_effect-did-requires c).In-Some

pub loop-e-preserved : goal.loop-e-preserved
unfolding fired_in
loop-e-preserved c =
    let a = c.args in
    let now = settled a.set.0 a.course a.labels.now in
    let t = c.in-Some.ensures.steps in
    firing_more c.loop-e.invariant t.some t.is
    (◌∙◌ {b = having now a.set.0 c.antecedent.result} c.firing-t.ensures
    (ap (having now a.set.0) c.antecedent.ensures))
    c.with_effect-did.ensures t.others

pub returns : goal.returns
unfolding fired_by
returns c =
    let a = c.args in
    let A = actions_of a.file.now.bytes.now a.file.now.counts in
    let now = settled a.set.0 a.course a.labels.now in
    let m = c.loop-e.invariant in (
      firing_done m (omega (arith, c.in-None.ensures.steps.0)),
      changes_done m.changes (omega (arith, c.in-None.ensures.steps.0))
          ∙ ap (λ (n : ℕ). list_over n (λ e. choose (bit e a.by) (fired_in A a.set.0 now e) (get_or a.fired.now e 0))) c.told-fired,
    )
