use Prim.Native.Nat.{◌<◌}
use borrow.Author.Rules.{rules}
use native.Mathlib.Omega.{arith}
use Rattle.level.proofs.Goals.{two_all, two_inside, two_above, two_first, two_part, two_less, two_none, pairs_mutual, pair_judged, all_judged}
use Rattle.level.proofs.goal.clash.Goals as goal
use Rattle.level.proofs.goal.clash.Goals.{Then-q-n}

pub loop-p-init : goal.loop-p-init
loop-p-init c = rw c.word.ensures.is (two_all (search rules))

pub clashing-q-requires : goal.clashing-q-requires
clashing-q-requires c =
    let a = c.args in
    let m = pairs_mutual a.n a.layer.now a.set.0 in
    let t = c.in-Some.ensures.steps in
    let l = c.loop-p.invariant in (
      search rules,
      search rules,
      two_inside m l (omega arith) t.some t.others,
      two_above m l (omega arith) t.some t.others _ t.is,
    )

-- the goal that was found lies above
above : (c : Then-q-n) → c.in-Some.p < c.clashing-q.result
above c =
    let a = c.args in
    let t = c.in-Some.ensures.steps in
    two_above (pairs_mutual a.n a.layer.now a.set.0) c.loop-p.invariant (omega arith) t.some
    t.others _ t.is _ (c.clashing-q.ensures.one c.if-q-n.true)

pub pair_at-requires : goal.pair_at-requires
pair_at-requires c =
    (above (goal.at.pair_at-requires c).Then-q-n, search rules, search rules)

pub returns-then-q-n : goal.returns-then-q-n
returns-then-q-n c =
    let a = c.args in
    let l = c.loop-p.invariant in
    let m = pairs_mutual a.n a.layer.now a.set.0 in
    let found = c.clashing-q.ensures in
    let t = c.in-Some.ensures.steps in
    pair_judged c.pair_at.ensures.0 (above (goal.at.returns-then-q-n c).Then-q-n) c.if-q-n.true
    (two_first m l (omega arith) t.some t.others _ t.is)
    (two_part m l (omega arith) t.some t.others _ (found.one c.if-q-n.true))
    (found.not c.if-q-n.true)

pub loop-p-preserved : goal.loop-p-preserved
loop-p-preserved c =
    let a = c.args in
    let m = pairs_mutual a.n a.layer.now a.set.0 in
    let t = c.in-Some.ensures.steps in
    two_less m c.loop-p.invariant (omega arith) t.some t.others
    _ t.is (c.clashing-q.ensures.all c.if-q-n.false)

pub returns : goal.returns
returns c = all_judged c.requires.3 (two_none c.loop-p.invariant (omega (arith, c.in_default.ensures.steps.0))) c.requires.1
