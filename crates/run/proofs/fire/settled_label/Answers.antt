-- Each way out is one of the three cases.
use Rattle.words.specs.Width.{prop_width}
use Prim.Native.Nat.{◌+◌}
use Rattle.run.proofs.Settles.{bit_off, bit_on, label_all, label_none, label_kept}
use Rattle.run.proofs.fire.settled_label.Goals as goal

pub returns-then-course-p-eq0 : goal.returns-then-course-p-eq0
returns-then-course-p-eq0 c =
    let a = c.args in
    label_all a.set.0 a.course a.p a.label (bit_off a.course a.p c.if-course-p-eq0.true)

pub returns-then-course-p-eq0-2 : goal.returns-then-course-p-eq0-2
returns-then-course-p-eq0-2 c =
    let a = c.args in
    label_none a.set.0 a.course a.p a.label (bit_on a.course a.p c.if-course-p-eq0.false)
    (bit_off a.course (prop_width + a.p) c.if-course-p-eq0-2.true)

pub returns : goal.returns
returns c =
    let a = c.args in
    label_kept a.set.0 a.course a.p a.label (bit_on a.course a.p c.if-course-p-eq0.false)
    (bit_on a.course (prop_width + a.p) c.if-course-p-eq0-2.false)
