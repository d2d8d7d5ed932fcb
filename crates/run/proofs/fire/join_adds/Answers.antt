use Rattle.run.proofs.Touches.{touches_none, touches_more, touches_done, union_twice}
use Rattle.run.specs.Fire.{joined_by}
use lib.Bits.{or_zero_r}
use Rattle.graph.specs.Format.{actions_of}
use Rattle.words.proofs.MemberLoops.{lowest_lt}
use Rattle.rules.specs.Word.{union}
use mathlib.Core.Path.{refl}
use Prim.Native.Nat.{◌<◌}
use native.Mathlib.Omega.{arith}
use Rattle.run.proofs.fire.join_adds.Goals as goal
use Rattle.run.proofs.fire.join_adds.Goals.{In-Some}

pub loop-e-init : goal.loop-e-init
loop-e-init c =
    rw c.into_iter-e-iterator.ensures.into_iter_gives
    (touches_none (λ x y. union x y) union_twice or_zero_r (omega (arith, c.args.file.now.taken.ranged.effects)) c.requires c.told-labels)

-- the next effect is one of the file's
named : (c : In-Some) → c.in-Some.e < c.args.file.now.counts.effects
named c =
    let t = c.in-Some.ensures.steps in
    omega (arith, t.is, lowest_lt _ c.loop-e.e-iterator.0 c.loop-e.invariant.few c.loop-e.invariant.inside t.some)

pub added-requires : goal.added-requires
added-requires c = named (goal.at.added-requires c).In-Some

pub spread-requires : goal.spread-requires
spread-requires c = omega (arith, c.loop-e.invariant.long)

pub bounds-fired-e : goal.bounds-fired-e
bounds-fired-e c = omega (arith, named (goal.at.bounds-fired-e c).In-Some, c.args.file.now.taken.ranged.effects)

pub loop-e-preserved : goal.loop-e-preserved
loop-e-preserved c =
    let t = c.in-Some.ensures.steps in
    touches_more (λ x y. union x y) union_twice or_zero_r c.loop-e.invariant t.some t.is
    c.added.ensures refl c.spread.ensures t.others

pub returns : goal.returns
unfolding joined_by actions_of
returns c =
    touches_done (λ x y. union x y) union_twice or_zero_r c.loop-e.invariant (omega (arith, c.in-None.ensures.steps.0))
