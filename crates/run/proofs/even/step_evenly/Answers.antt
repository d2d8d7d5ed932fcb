-- What goes of the word is taken away, and comes back in the other half.
use Prim.Native.Nat.{ℕ, ◌*◌, ◌%◌, ◌^◌, ◌<◌}
use mathlib.Core.Path.{refl, ap, ap₂, subst}
use native.Mathlib.Omega.{arith}
use Rattle.rules.specs.Word.{common, union}
use Rattle.rules.proofs.Words.{without_lt}
use Rattle.words.specs.Width.{prop_width, word_width}
use Rattle.run.specs.Course.{further}
use Rattle.run.specs.Even.{above, Foretold, Moves, TriedEvenly}
use Rattle.run.proofs.Evens.{leave_is, bring_is}
use Rattle.run.proofs.even.step_evenly.Goals as goal

pub returns-then-course-need-ne0 : goal.returns-then-course-need-ne0
unfolding TriedEvenly
returns-then-course-need-ne0 c = c.if-course-need-ne0.true

pub returns-in_default : goal.returns-in_default
unfolding TriedEvenly
returns-in_default c =
    let a = c.args in
    subst (Foretold a.evens.now.when.now a.evens.now.goes.now a.by a.course) c.in_default.is c.foretell-even.ensures

pub returns : goal.returns
unfolding TriedEvenly Moves above further
returns c =
    let a = c.args in (
      c.if-course-need-ne0.false,
      (
        c.in-Some.all,
        subst (Foretold a.evens.now.when.now a.evens.now.goes.now a.by a.course) c.in-Some.is c.foretell-even.ensures,
        λ del add d b e. (
          ap (common a.course) (leave_is d b e refl),
          ap₂ (λ (x y : ℕ). union (common a.course x) y) (leave_is d b e refl) (bring_is d b e refl),
        ),
      ),
    )

pub overflow_sub-left : goal.overflow_sub-left
overflow_sub-left c =
    let g = c.in-Some.all in
    let l : g < 2 ^ word_width = omega arith in
    omega (arith, without_lt word_width {a = g} ((g * 2 ^ prop_width) % 2 ^ word_width) l)
