use mathlib.Core.Path.{◌≡◌, refl, ap, ◌∙◌}
use Prim.Native.Nat.{ℕ}
use native.Mathlib.Omega.{arith}
use lib.ListN.{get_or}
use Rattle.rules.specs.Word.{union}
use Rattle.rules.specs.Over.{join_over}
use Rattle.rules.proofs.Overs.{join_over_next}
use Rattle.words.specs.Rows.{row_length}
use Rattle.run.specs.Fire.{literals_in, course_in}
use Rattle.run.proofs.fire.course_of.Goals as goal

pub loop-p-init : goal.loop-p-init
unfolding join_over
loop-p-init c = (omega arith, refl)

pub loop-p-preserved : goal.loop-p-preserved
loop-p-preserved c =
    let l = c.loop-p in
    let a = c.args in (
      omega arith,
      ap (union l.course) c.literals-course.ensures ∙ join_over_next l.p (λ i. literals_in a.set.0 i (get_or a.labels.now i 0)) l.invariant.1,
    )

pub returns : goal.returns
unfolding course_in
returns c =
    let l = c.loop-p in
    let a = c.args in
    let e : l.p ≡ row_length = omega (arith, l.invariant.0) in
    l.invariant.1 ∙ ap (λ (x : ℕ). join_over x (λ i. literals_in a.set.0 i (get_or a.labels.now i 0))) e
