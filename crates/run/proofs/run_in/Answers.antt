-- Where the walk led tells whether the list has ended; nothing is written before.
use mathlib.Core.Path.{sym, ap}
use Rattle.graph.specs.Format.{actions_of}
use Rattle.run.specs.Run.{ran_verdict, end_rule}
use Rattle.run.proofs.Courses.{sets_length}
use Rattle.run.proofs.Runs.{narrow_of}
use Rattle.run.proofs.Steps.{Words, tables_of, run_ends, run_counts, run_lacks}
use Rattle.run.proofs.Tasks.{checked}
use Rattle.run.proofs.Reports.{reported_refused, reported_accepted}
use Rattle.run.proofs.run_in.Goals as goal
use Rattle.run.proofs.run_in.Goals.{After-read_steps}

words : (c : After-read_steps) → let file = c.args.task.now.file in
    Words (actions_of file.bytes.now file.counts) c.read_steps.new.needs c.read_steps.new.leave c.read_steps.new.bring
unfolding actions_of
words c = let e = c.read_steps.ensures in record { needed = e.0; left = e.1; brought = e.2 }

pub walk-did-requires : goal.walk-did-requires
unfolding actions_of
walk-did-requires c = tables_of (words (goal.at.walk-did-requires c).After-read_steps) c.args.task.now.known

pub returns-then-did-task : goal.returns-then-did-task
unfolding end_rule ran_verdict
returns-then-did-task c =
    let begins = c.start_course-from.ensures in
    reported_refused _ _ _ _ _ (ap ran_verdict (sym (run_lacks (checked c.args.task.now c.requires.0) c.requires.1
    (words (goal.at.returns-then-did-task c).After-read_steps) begins c.walk-did.ensures c.if-did-task.true)))

pub returns : goal.returns
unfolding end_rule ran_verdict
returns c =
    let p = c.requires.1 in
    let passed = checked c.args.task.now c.requires.0 in
    let begins = c.start_course-from.ensures in
    let ended = c.if-did-task.false in
    reported_accepted _ _ _ _ _ _ _ (ap ran_verdict (sym (run_ends passed p (words (goal.at.returns c).After-read_steps) begins c.walk-did.ensures ended)))
    (sym (sets_length _ _ _ (λ s h. (narrow_of _ _ passed.taken).starts s h) _))
    (run_counts passed p (words (goal.at.returns c).After-read_steps) begins c.walk-did.ensures ended) c.lay.ensures

pub read_steps-requires : goal.read_steps-requires
read_steps-requires c = let p = c.requires in (p.1, p.2)

pub start_course-from-requires : goal.start_course-from-requires
start_course-from-requires c = c.args.task.now.some

pub lay-requires : goal.lay-requires
lay-requires c = (c.args.task.now.some, c.requires.0)
