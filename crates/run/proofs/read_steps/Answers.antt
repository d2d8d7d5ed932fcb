use mathlib.Core.Path.{ap₂, ◌∙◌}
use native.Mathlib.Omega.{arith}
use Rattle.words.proofs.Writes.{list_whole}
use Rattle.run.specs.Course.{leaves, brings, leaves_of, brings_of}
use Rattle.run.proofs.Walks.{told_none, told_more}
use Rattle.run.proofs.read_steps.Goals as goal

pub loop-a-init : goal.loop-a-init
loop-a-init c = let p = c.requires in told_none c.args.file.now.taken p.0 p.1.needs_long p.1.leave_long p.1.bring_long

pub loop-a-preserved : goal.loop-a-preserved
unfolding leaves_of brings_of
loop-a-preserved c =
    told_more c.loop-a.invariant (omega (arith, c.loop-a.invariant.all)) (c.wide.ensures ∙ c.precondition.ensures)
    (c.leaves.ensures ∙ ap₂ leaves c.deleted.ensures c.added.ensures)
    (c.brings.ensures ∙ ap₂ brings c.deleted.ensures c.added.ensures)

pub returns : goal.returns
returns c =
    let p = c.requires in
    let t = c.loop-a.invariant in (
      list_whole t.need (omega arith) p.1.needs_long,
      list_whole t.left (omega arith) p.1.leave_long,
      list_whole t.brought (omega arith) p.1.bring_long,
    )
