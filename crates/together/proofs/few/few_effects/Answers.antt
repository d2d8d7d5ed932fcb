use native.Mathlib.Omega.{arith}
use mathlib.Core.Path.{◌≡◌, refl, sym, ap, subst, ◌∙◌}
use Prim.Native.Nat.{ℕ, ◌<◌, ◌^◌}
use lib.ListN.{length}
use Rattle.words.specs.Rows.{row_length, table_length}
use Rattle.together.proofs.Rows.{lent, row_long}
use Rattle.together.proofs.FewLoops.{effects_none, effects_more}
use Rattle.together.proofs.few.few_effects.Goals as goal

pub loop-i-init : goal.loop-i-init
loop-i-init c =
    let e = c.args.effects in
    let t = c.args.tables.now in (
      record { live = refl; r = refl },
      effects_none e.needs.now e.adds.now e.dels.now e.interferers.now t.live t.r
          c.requires.0 (omega arith) c.requires.1 (omega arith),
      refl,
    )

pub keep_row-requires : goal.keep_row-requires
keep_row-requires c =
    let e = c.args.effects in
    let (kept, rows, spare) = c.loop-i.invariant in
    let few = e.listed.few in (
      record { whole = rows.with_adders_lem.long; inside = omega arith },
      record {
        whole = ap length kept.r ∙ omega arith;
        inside = subst (λ (x : ℕ). x < 2 ^ row_length) (sym c.from.ensures) (e.listed.dels_inside c.loop-i.i (omega (arith, e.listed.dels_long)));
      },
      c.requires.0,
    )

pub few_effect-requires : goal.few_effect-requires
few_effect-requires c =
    let e = c.args.effects in
    let (kept, rows, spare) = c.loop-i.invariant in
    let i = c.loop-i.i in
    let t = c.loop-i.tables in
    let few = e.listed.few in
    let r_long : length t.r ≡ table_length = ap length kept.r ∙ omega arith in (
      omega arith,
      ap length kept.live ∙ omega arith,
      ap length (lent t.r i) ∙ row_long t.r i r_long (omega arith),
      ap length (lent t.mates i) ∙ row_long t.mates i rows.pairs.long (omega arith),
      ap length (lent c.keep_row.new.besides i) ∙ row_long c.keep_row.new.besides i (omega (arith, c.keep_row.auto.besides, rows.with_adders_lem.long)) (omega arith),
    )

pub loop-i-preserved : goal.loop-i-preserved
loop-i-preserved c =
    let e = c.args.effects in
    let (kept, rows, spare) = c.loop-i.invariant in
    let few = e.listed.few in (
      record { live = kept.live; r = kept.r },
      effects_more rows c.requires.0 (omega arith) (omega arith) (omega (arith, c.keep_row.auto.besides, rows.with_adders_lem.long)) c.from.ensures
          c.keep_row.ensures c.few_effect.ensures.0 c.few_effect.ensures.1,
      spare,
    )

pub returns : goal.returns
returns c =
    let (kept, rows, spare) = c.loop-i.invariant in
    (kept, λ i j h l. rows.pairs.is i j (omega arith) l, λ i p h l. rows.with_adders_lem.is i p (omega arith) l, spare)
