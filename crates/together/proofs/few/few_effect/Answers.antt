-- The independent effects one after the other, then the effect itself.
use native.Mathlib.Omega.{arith}
use Rattle.together.proofs.FewLoops.{own_mates, own_beside, independent_are, independent_lt}
use Rattle.together.proofs.few.few_effect.Goals as goal

pub few_row-requires : goal.few_row-requires
few_row-requires c =
    let a = c.args in
    let e = a.effects in
    let p = c.requires in (
      record {
        live_long = p.1;
        row_long = p.2;
        own = p.0;
        others = independent_lt e.needs.now e.interferers.now a.i c.first-all.ensures c.single.ensures;
      },
      p.3,
      p.4,
    )

pub returns : goal.returns
returns c =
    let a = c.args in
    let e = a.effects in
    let independent = independent_are e.needs.now e.interferers.now a.i c.first-all.ensures c.single.ensures in (
      own_mates a.i e.needs.now e.adds.now e.interferers.now a.live.now a.row.now independent a.mates.now (omega (arith, e.listed.few)) c.few_row.ensures.0,
      own_beside a.i e.needs.now e.adds.now e.interferers.now a.live.now a.row.now independent a.beside.now c.few_row.ensures.1 c.spread.ensures,
    )
