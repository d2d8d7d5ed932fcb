-- One by one, or by rows: turned, paired, cut, joined over the adders, and turned back.
use mathlib.Core.Path.{refl}
use native.Mathlib.Omega.{arith}
use Rattle.together.proofs.Rows.{parts_le}
use Rattle.layers.proofs.Stages.{few_made, rows_made}
use Rattle.layers.proofs.step.mate.Goals as goal

pub few-requires : goal.few-requires
few-requires c = c.requires.wide.parts

pub returns-then-not-frame : goal.returns-then-not-frame
returns-then-not-frame c =
    let a = c.args in
    let e = a.effects in
    let did = c.few.ensures in
    let t = c.few.new.tables in (
      did.0,
      λ A all labels props told del is adm.
          few_made A all a.frame.props a.frame.width e.needs.now e.adds.now e.dels.now e.adders.now e.interferers.now t.live t.r
          labels props told c.requires.wide del is adm _ _ did.1 did.2,
    )

pub turn-requires : goal.turn-requires
turn-requires c = let wide = c.requires.wide in
    let few = parts_le wide.parts in
    (omega (arith, wide.effects, few), omega (arith, wide.props, few))

pub pairs-requires : goal.pairs-requires
pairs-requires c = record {
  parts = c.requires.spans.parts;
  few = c.requires.spans.effects;
  live_long = omega arith;
  turned_long = omega (arith, c.turn.auto.to);
  mates_long = omega arith;
}

pub cut_columns-requires : goal.cut_columns-requires
cut_columns-requires c = let e = c.args.effects.listed in
    record { few = omega (arith, e.dels_long, e.few); long = omega (arith, c.turn.auto.to) }

pub join_rows-requires : goal.join_rows-requires
join_rows-requires c =
    let e = c.args.effects.listed in (
      record {
        to_long = omega arith;
        table_long = omega (arith, c.pairs.auto.mates);
        few = e.adders_few;
        rows = e.adders_inside;
        parts = c.requires.spans.parts;
      },
      omega (arith, c.turn.auto.to, c.cut_columns.auto.turned),
    )

pub turn-requires-2 : goal.turn-requires-2
turn-requires-2 c =
    let wide = c.requires.wide in
    let few = parts_le wide.parts in
    (omega (arith, wide.props, few), omega (arith, wide.effects, few))

pub returns : goal.returns
returns c =
    let a = c.args in
    let e = a.effects in
    let t = a.tables.now in (
      record { live = refl; r = refl },
      λ A all labels props told del is adm.
          rows_made A all a.frame.props a.frame.width e.needs.now e.adds.now e.dels.now e.adders.now e.interferers.now t.live t.r
          labels props told c.requires.wide del is adm a.frame.span _ _ _ _ _ c.requires.spans c.requires.adders_long e.listed.dels_long
          c.turn.ensures c.pairs.ensures c.cut_columns.ensures c.join_rows.ensures
          c.turn-2.ensures,
    )
