use mathlib.Core.Path.{ap}
use native.Mathlib.Omega.{arith}
use lib.ListN.{length}
use Rattle.rules.specs.Shared.{start_label}
use Rattle.rules.proofs.Layers.{length_list_over}
use Rattle.graph.specs.Format.{actions_of}
use Rattle.plan.proofs.Readings.{reading_none, reading_more, reading_done}
use Rattle.plan.proofs.read_members.Goals as goal

pub loop-e-init : goal.loop-e-init
loop-e-init c = (c.requires.0, reading_none c.args.file.now.taken c.requires.0 c.requires.1 c.requires.2)

pub spread-requires : goal.spread-requires
spread-requires c =
    let r = c.loop-e.invariant.1 in
    omega (
      arith,
      ap length r.adding,
      length_list_over c.args.file.now.counts.props (start_label c.loop-e.e (actions_of c.args.file.now.bytes.now c.args.file.now.counts).add),
      r.taken.ranged.props,
    )

pub loop-e-preserved : goal.loop-e-preserved
loop-e-preserved c =
    let l = c.loop-e in (
      l.invariant.0,
      reading_more l.invariant.1 (omega arith) c.condition.ensures c.owner-o.ensures.0 c.added.ensures
          c.single.ensures c.spread.ensures,
    )

pub returns : goal.returns
returns c = reading_done c.loop-e.invariant.1 (omega arith) c.loop-e.invariant.0 c.requires.1
