use mathlib.Core.Path.{sym, ap₂, ◌∙◌}
use native.Mathlib.Nat.{zero-add}
use native.Mathlib.Omega.{arith}
use Rattle.words.proofs.Writes.{list_none, list_more, list_whole}
use Rattle.run.specs.Course.{pack}
use Rattle.run.specs.Even.{goes_of}
use Rattle.run.proofs.effects.read_effects.Goals as goal
use Rattle.run.proofs.effects.read_effects.Goals.{In-loop-e}

pub loop-e-init : goal.loop-e-init
loop-e-init c = let p = c.requires in (list_none (omega (arith, p.0)), list_none (omega (arith, p.1)))

pub loop-e-preserved : goal.loop-e-preserved
unfolding goes_of
loop-e-preserved c =
    let l = c.loop-e in
    let p = c.requires in (
      list_more l.invariant.0 (omega (arith, p.0)) (sym (zero-add l.e)) (c.wide.ensures ∙ c.antecedent.ensures),
      list_more l.invariant.1 (omega (arith, p.0)) (sym (zero-add l.e))
          (c.pack.ensures ∙ ap₂ pack c.added.ensures c.deleted.ensures),
    )

pub returns : goal.returns
returns c =
    let p = c.requires in
    let lists = c.loop-e.invariant in
    (list_whole lists.0 (omega (arith, p.0)) p.0, list_whole lists.1 (omega (arith, p.0)) p.1)
