-- The steps go on by the words of the start states, and nothing is written before the list has ended.
use mathlib.Core.Path.{refl, sym}
use Rattle.rules.specs.Lists.{list_over}
use Rattle.rules.proofs.Layers.{length_list_over}
use native.Mathlib.Omega.{arith}
use lib.Seq.{length-take-le}
use Rattle.run.proofs.Starts.{front_laid}
use Rattle.run.proofs.Tasks.{checked}
use Rattle.run.proofs.Reports.{reported_refused, reported_accepted}
use Rattle.run.proofs.Fires.{effects_off, effects_done, effects_idle}
use Rattle.run.proofs.run_rows.Goals as goal

pub start_labels-requires : goal.start_labels-requires
unfolding list_over
start_labels-requires c = refl

pub walk-went-requires : goal.walk-went-requires
walk-went-requires c =
    let led = c.requires.1 in
    (led.tells, led.steps c.start_labels.new.labels c.start_labels.ensures)

pub returns-then-went-task : goal.returns-then-went-task
returns-then-went-task c =
    reported_refused _ _ _ _ _ (effects_off (checked c.args.task.now c.requires.0) c.start_labels.ensures c.walk-went.ensures c.if-went-task.true)

pub lay_labels-requires : goal.lay_labels-requires
lay_labels-requires c =
    let n = c.args.task.now.file.counts.states in
    omega (arith, length-take-le n c.args.out.now c.requires.0, c.args.task.now.file.taken.ranged.states)

pub returns : goal.returns
returns c =
    let passed = checked c.args.task.now c.requires.0 in
    let began = c.start_labels.ensures in
    reported_accepted _ _ _ _ _ _ _ (effects_done passed began c.walk-went.ensures c.if-went-task.false)
    (sym (length_list_over _ _)) (effects_idle passed began c.walk-went.ensures c.if-went-task.false)
    (front_laid c.args.task.now.file.counts.states _ _ c.requires.0 c.lay_labels.ensures)
