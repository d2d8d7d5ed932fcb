-- What is left of the word tells whether a label changes.
use Rattle.run.proofs.Settles.{answer_none, answer_some}
use Rattle.run.proofs.fire.apply_evenly.Goals as goal

pub returns-then-left-course : goal.returns-then-left-course
returns-then-left-course c =
    let a = c.args in
    answer_none a.course a.del.0 a.add.0 c.leaves.ensures c.if-left-course.true

pub returns : goal.returns
returns c =
    let a = c.args in
    answer_some a.course a.del.0 a.add.0 c.leaves.ensures c.brings.ensures c.if-left-course.false
