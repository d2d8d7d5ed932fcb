use mathlib.Core.Path.{ap, ◌∙◌}
use native.Mathlib.Omega.{arith}
use Rattle.words.proofs.MemberLoops.{lowest_lt}
use Rattle.graph.specs.Format.{start_of}
use Rattle.run.proofs.Starts.{sharing_none, sharing_more, sharing_done}
use Rattle.run.proofs.shared_by_members.Goals as goal

pub loop-s-init : goal.loop-s-init
loop-s-init c =
    rw c.into_iter-s-iterator.ensures.into_iter_gives
    (sharing_none c.args.file.now.taken.ranged.states c.requires.inside c.first-all.ensures)

pub start-x-requires : goal.start-x-requires
start-x-requires c =
    let t = c.in-Some.ensures.steps in
    let m = c.loop-s.invariant in
    omega (arith, t.is, lowest_lt c.args.file.now.counts.states c.loop-s.s-iterator.0 m.few m.met.inside t.some)

pub loop-s-preserved : goal.loop-s-preserved
loop-s-preserved c =
    let t = c.in-Some.ensures.steps in
    sharing_more c.loop-s.invariant t.some
    (c.start-x.ensures ∙ ap (start_of c.args.file.now.bytes.now c.args.file.now.counts) t.is) t.others

pub returns : goal.returns
returns c = sharing_done c.loop-s.invariant (omega (arith, c.in-None.ensures.steps.0))
