-- Where the word led tells whether the list has ended; nothing is written before.
use mathlib.Core.Path.{refl, sym, ◌∙◌}
use native.Mathlib.Omega.{arith}
use Rattle.rules.specs.Lists.{list_over}
use Rattle.graph.specs.Format.{actions_of}
use Rattle.run.specs.Even.{Tells, Led}
use Rattle.run.proofs.Courses.{sets_length}
use Rattle.run.proofs.Runs.{narrow_of}
use Rattle.run.proofs.Tasks.{checked}
use Rattle.run.proofs.Reports.{reported_refused, reported_accepted}
use Rattle.run.proofs.Evens.{tells_of, fit_of, known_by, led_of, led_lacks, led_ends, led_counts}
use Rattle.run.proofs.run_evenly_in.Goals as goal
use Rattle.run.proofs.run_evenly_in.Goals.{After-read_effects, After-walk_evenly-led}

-- what was read tells the file's actions
tells : (c : After-read_effects) →
    let file = c.args.task.now.file in
    Tells (actions_of file.bytes.now file.counts) c.read_needs.new.needs c.read_owned.new.owned c.read_effects.new.when c.read_effects.new.goes
tells c = tells_of c.args.task.now.file.taken c.read_needs.ensures c.read_owned.ensures c.read_effects.ensures.0 c.read_effects.ensures.1

pub read_owned-requires : goal.read_owned-requires
unfolding list_over
read_owned-requires c = refl

pub invariant_of-evens : goal.invariant_of-evens
invariant_of-evens c = record { fit = fit_of (tells (goal.at.invariant_of-evens c).After-read_effects) }

pub walk_evenly-led-requires : goal.walk_evenly-led-requires
unfolding actions_of
walk_evenly-led-requires c =
    (known_by _ (tells (goal.at.walk_evenly-led-requires c).After-read_effects) c.args.task.now.known, omega arith, omega arith)

-- and where it led
led : (c : After-walk_evenly-led) →
    let task = c.args.task.now in
    Led task.file.bytes.now task.file.counts task.set.0 task.list.now c.read_needs.new.needs c.read_owned.new.owned
    c.read_effects.new.when c.read_effects.new.goes c.walk_evenly-led.result
led c = led_of (checked c.args.task.now c.requires.0)
    (tells_of c.args.task.now.file.taken c.read_needs.ensures c.read_owned.ensures c.read_effects.ensures.0 c.read_effects.ensures.1)
    c.start_course.ensures c.walk_evenly-led.ensures

pub lacking-requires : goal.lacking-requires
unfolding actions_of
lacking-requires c = (known_by _ (tells (goal.at.lacking-requires c).After-read_effects) c.args.task.now.known, c.if-led-task.true)

pub returns-then-lacking : goal.returns-then-lacking
returns-then-lacking c =
    reported_refused _ _ _ _ _ (led_lacks (checked c.args.task.now c.requires.0) (led (goal.at.returns-then-lacking c).After-walk_evenly-led)
    c.if-led-task.true (sym c.lacking.ensures ∙ c.if-lacking.true))

pub run_rows-requires : goal.run_rows-requires
run_rows-requires c = (c.requires.0, led (goal.at.run_rows-requires c).After-walk_evenly-led)

pub start_course-requires : goal.start_course-requires
start_course-requires c = c.args.task.now.some

pub lay-requires : goal.lay-requires
lay-requires c = (c.args.task.now.some, c.requires.0)

pub returns : goal.returns
returns c =
    let passed = checked c.args.task.now c.requires.0 in
    reported_accepted _ _ _ _ _ _ _ (led_ends passed (led (goal.at.returns c).After-walk_evenly-led) c.if-led-task.false)
    (sym (sets_length _ _ _ (λ s h. (narrow_of _ _ passed.taken).starts s h) _))
    (led_counts passed (led (goal.at.returns c).After-walk_evenly-led) c.if-led-task.false) c.lay.ensures
