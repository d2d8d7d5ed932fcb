-- In either case what all states of the set have and what some of them have.
use Prim.Native.Nat.{ℕ}
use mathlib.Core.Path.{◌≡◌, sym, ap, ap₂, ◌∙◌}
use Rattle.rules.specs.Word.{without, first}
use Rattle.rules.specs.Over.{join_of, meet_of}
use Rattle.words.specs.Width.{prop_width}
use Rattle.graph.specs.Format.{start_of}
use Rattle.run.specs.Course.{pack}
use Rattle.run.proofs.Courses.{course_start}
use Rattle.run.proofs.Runs.{narrow_of}
use Rattle.run.proofs.start_course.Goals as goal
use Rattle.run.proofs.start_course.Goals.{Joined-set-first, then-set-first, else-set-first}

shared : (c : Joined-set-first) → let a = c.args in
    (c.if-set-first.shared.all ≡ meet_of a.file.now.counts.states a.set.0 (start_of a.file.now.bytes.now a.file.now.counts) (first prop_width))
    × (c.if-set-first.shared.some ≡ join_of a.file.now.counts.states a.set.0 (start_of a.file.now.bytes.now a.file.now.counts))
shared c =
    let a = c.args in
    elim c.if-set-first.branch [
      | then-set-first w ↦ (
        ap (λ x. x.all) w.shared-is ∙ w.shared_by_all-shared.ensures.0
            ∙ ap (λ (s : ℕ). meet_of a.file.now.counts.states s (start_of a.file.now.bytes.now a.file.now.counts) (first prop_width)) (sym (w.if-set-first.true ∙ c.first.ensures)),
        ap (λ x. x.some) w.shared-is ∙ w.shared_by_all-shared.ensures.1
            ∙ ap (λ (s : ℕ). join_of a.file.now.counts.states s (start_of a.file.now.bytes.now a.file.now.counts)) (sym (w.if-set-first.true ∙ c.first.ensures)),
      )
      | else-set-first w ↦ (ap (λ x. x.all) w.shared-is ∙ w.shared_by_members-shared.ensures.0, ap (λ x. x.some) w.shared-is ∙ w.shared_by_members-shared.ensures.1)
    ]

pub returns : goal.returns
returns c =
    c.pack.ensures
    ∙ ap₂ pack (c.without.ensures ∙ ap₂ without c.first-2.ensures (shared (goal.at.returns c).Joined-set-first).0) (shared (goal.at.returns c).Joined-set-first).1
    ∙ course_start c.args.file.now.counts.states c.args.set.0 _ (narrow_of c.args.file.now.bytes.now c.args.file.now.counts c.args.file.now.taken).starts

pub first-requires : goal.first-requires
first-requires c = c.args.file.now.taken.ranged.states
