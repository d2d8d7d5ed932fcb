-- Where the word does not tell it, the labels are read.
use Prim.Native.Nat.{ℕ, ◌*◌, ◌%◌, ◌^◌, ◌<◌}
use mathlib.Core.Path.{◌≡◌, sym, ap, ap₂, ◌∙◌}
use native.Mathlib.Omega.{arith}
use Rattle.rules.specs.Word.{common}
use Rattle.words.specs.Width.{prop_width, word_width}
use Rattle.run.specs.Course.{pack}
use Rattle.run.specs.Fire.{settled, having}
use Rattle.run.proofs.Idles.{had_all, had_none, above_is}
use Rattle.run.proofs.Settles.{having_settled}
use Rattle.run.proofs.fire.firing.Goals as goal
use Rattle.run.proofs.fire.firing.Goals.{After-wide-needed}

-- the antecedent, as bits of what some state has
above : (c : After-wide-needed) → (c.wide-needed.result * 2 ^ prop_width) % 2 ^ word_width ≡ pack 0 c.args.when
above c =
    let a = c.args in
    let small : a.when < 2 ^ prop_width = omega arith in
    ap (λ (x : ℕ). (x * 2 ^ prop_width) % 2 ^ word_width) c.wide-needed.ensures ∙ above_is a.set.0 a.labels.now a.when small

pub returns-then-course-needed-eq0 : goal.returns-then-course-needed-eq0
returns-then-course-needed-eq0 c =
    let a = c.args in
    let small : a.when < 2 ^ prop_width = omega arith in
    had_all a.set.0 (settled a.set.0 a.course a.labels.now) a.when small
    (sym (ap₂ common c.requires c.wide-needed.ensures) ∙ c.if-course-needed-eq0.true)

pub returns-then-course-somewhere : goal.returns-then-course-somewhere
returns-then-course-somewhere c =
    let a = c.args in
    let small : a.when < 2 ^ prop_width = omega arith in
    had_none a.set.0 (settled a.set.0 a.course a.labels.now) a.when small (above (goal.at.returns-then-course-somewhere c).After-wide-needed)
    (λ e. c.if-course-somewhere.true (ap (λ (x : ℕ). common x ((c.wide-needed.result * 2 ^ prop_width) % 2 ^ word_width)) c.requires ∙ e))

pub returns : goal.returns
returns c =
    let a = c.args in
    c.having.ensures ∙ ap (having a.labels.now a.set.0) c.common.ensures
    ∙ having_settled a.set.0 a.course a.labels.now a.when (above (goal.at.returns c).After-wide-needed) c.if-course-somewhere.false
