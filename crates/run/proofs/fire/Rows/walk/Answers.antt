use Prim.Native.Nat.{ℕ, ◌+◌, ◌-◌}
use mathlib.Core.Path.{◌≡◌, subst, ◌∙◌}
use mathlib.Core.List.{List}
use native.Mathlib.Omega.{arith}
use Rattle.graph.specs.Format.{actions_of}
use Rattle.run.specs.Fire.{settled, next_of, Stepping}
use Rattle.run.specs.declared.fire.Stepped.{Stepped}
use Rattle.run.specs.declared.fire.Stepped.TheVariants.{Changed}
use Rattle.run.proofs.Evens.{known_by}
use Rattle.run.proofs.Fires.{missing, Stopped, step_idle, step_changed, step_off, step_done}
use Rattle.run.proofs.fire.Rows.walk.Goals as goal
use Rattle.run.proofs.fire.Rows.walk.Goals.{After-step-did, In-Changed}

-- what the labels stand for after a step with this answer
abbrev stood : After-step-did → Stepped → List ℕ
stood c r =
    settled c.args.task.now.set.0 (next_of c.loop-i.course r)
    c.step-did.new.self.labels

-- what holds behind a step that changed something
changed : (c : In-Changed) →
    let l = c.loop-i in
    let a = c.args in
    let next = c.in-Changed.next in
    Stepping (actions_of a.task.now.file.bytes.now a.task.now.file.counts) a.task.now.set.0 a.task.now.list.now a.self.now.labels (settled c.args.task.now.set.0 (next_of c.loop-i.course (Changed next)) c.step-did.new.self.labels) (l.i + 1) next l.idle
changed c =
    let l = c.loop-i in
    let a = c.args in
    let A = actions_of a.task.now.file.bytes.now a.task.now.file.counts in
    let e = c.in-Changed.is in
    subst (λ (x : Stepped). Stepping A a.task.now.set.0 a.task.now.list.now a.self.now.labels (settled c.args.task.now.set.0 (next_of c.loop-i.course x) c.step-did.new.self.labels) (l.i + 1) c.in-Changed.next l.idle) e
    (step_changed l.invariant {labels' = settled c.args.task.now.set.0 (next_of c.loop-i.course c.step-did.result) c.step-did.new.self.labels} c.loop-i-test.true c.byte.ensures.0
    c.step-did.ensures e)

pub loop-i-preserved-in-Unchanged : goal.loop-i-preserved-in-Unchanged
unfolding next_of
loop-i-preserved-in-Unchanged c =
    let l = c.loop-i in
    let a = c.args in
    let A = actions_of a.task.now.file.bytes.now a.task.now.file.counts in
    subst (λ (x : Stepped). Stepping A a.task.now.set.0 a.task.now.list.now a.self.now.labels (stood (goal.at.loop-i-preserved-in-Unchanged c).After-step-did x) (l.i + 1) l.course (l.idle + 1))
    c.in-Unchanged.is
    (step_idle l.invariant {labels' = stood (goal.at.loop-i-preserved-in-Unchanged c).After-step-did c.step-did.result} c.loop-i-test.true c.byte.ensures.0
    c.step-did.ensures c.in-Unchanged.is)

pub walk_evenly-ahead-requires : goal.walk_evenly-ahead-requires
unfolding actions_of
walk_evenly-ahead-requires c = (known_by _ c.requires.0 c.args.task.now.known, (changed (goal.at.walk_evenly-ahead-requires c).In-Changed).few, (changed (goal.at.walk_evenly-ahead-requires c).In-Changed).inside)

pub loop-i-preserved : goal.loop-i-preserved
unfolding next_of
loop-i-preserved c =
    let a = c.args in
    c.walk_evenly-ahead.ensures.on (actions_of a.task.now.file.bytes.now a.task.now.file.counts) a.task.now.set.0 a.self.now.labels c.step-did.new.self.labels
    c.requires.0 a.task.now.some.some (changed (goal.at.loop-i-preserved c).In-Changed)

pub returns-in_default-did : goal.returns-in_default-did
unfolding next_of
returns-in_default-did c =
    let l = c.loop-i in
    let a = c.args in
    let e : l.i ≡ l.i + 1 - 1 = omega arith in
    let A = actions_of a.task.now.file.bytes.now a.task.now.file.counts in
    let off = missing c.step-did.result c.in_default.not-Unchanged c.in_default-did.not-Changed in
    let end = subst (λ (x : Stepped). Stopped A a.task.now.set.0 a.task.now.list.now a.self.now.labels (stood (goal.at.returns-in_default-did c).After-step-did x) l.i l.idle) off
    (step_off l.invariant {labels' = stood (goal.at.returns-in_default-did c).After-step-did c.step-did.result} c.loop-i-test.true c.byte.ensures.0
    c.step-did.ensures off) in
    subst (λ (x : ℕ). Stopped A a.task.now.set.0 a.task.now.list.now a.self.now.labels c.settle.new.labels x l.idle) e
    (end.0, end.1, c.settle.ensures ∙ end.2)

pub returns : goal.returns
returns c =
    let end = step_done c.loop-i.invariant c.loop-i-test.false in
    (end.0, end.1, c.settle-2.ensures ∙ end.2)
