-- Without a step the start sets are the end sets; else each version has its own way.
use mathlib.Core.Path.{sym}
use Rattle.rules.proofs.Tests.{same_of}
use Rattle.rules.proofs.Layers.{length_list_over}
use Rattle.run.proofs.Built.{no_steps, no_idle_steps}
use Rattle.run.proofs.Reports.{reported_accepted}
use Rattle.run.proofs.run_passed.Goals as goal

pub returns-then-task-eq0 : goal.returns-then-task-eq0
returns-then-task-eq0 c =
    let a = c.args.task.now in
    reported_accepted _ _ _ _ _ _ _ (no_steps a.file.bytes.now a.file.counts a.set.0 a.list.now c.if-task-eq0.true) (sym (length_list_over _ _))
    (no_idle_steps a.file.bytes.now a.file.counts a.set.0 a.list.now c.if-task-eq0.true) c.lay_starts.ensures

pub run_plain-requires : goal.run_plain-requires
run_plain-requires c = (c.requires, same_of c.if-task-eq-PLAIN_VERSION.true)
