-- The effects of the action fire only where every state of the set has the precondition.
use Prim.Native.Nat.{ℕ, ◌<◌, ◌^◌}
use mathlib.Core.Path.{◌≡◌, sym, subst, ◌∙◌}
use native.Mathlib.Omega.{arith}
use lib.ListN.{get_or}
use Rattle.words.specs.Width.{prop_width}
use Rattle.graph.specs.Format.{actions_of}
use Rattle.run.specs.Fire.{effects_of, settled, next_of}
use Rattle.run.proofs.Runs.{narrow_of}
use Rattle.run.proofs.Touches.{effects_lt, owned_at}
use Rattle.run.proofs.Fires.{step_missing, step_made}
use Rattle.run.proofs.fire.Rows.step.Goals as goal
use Rattle.run.proofs.fire.Rows.step.Goals.{Start}

-- the precondition is a set of propositions
small : (s : Start) → (actions_of s.args.file.now.bytes.now s.args.file.now.counts).pre s.args.a < 2 ^ prop_width
unfolding actions_of
small s = (narrow_of s.args.file.now.bytes.now s.args.file.now.counts s.args.file.now.taken).pre s.args.a s.requires.1

-- the word of the action's effects
word : (s : Start) → get_or s.args.owned.now s.args.a 0 ≡ effects_of (actions_of s.args.file.now.bytes.now s.args.file.now.counts) s.args.a
word s = owned_at (actions_of s.args.file.now.bytes.now s.args.file.now.counts) s.requires.0 (omega (arith, s.requires.1, s.args.file.now.taken.ranged.actions))

pub returns-then-course-wide-ne0 : goal.returns-then-course-wide-ne0
unfolding next_of
returns-then-course-wide-ne0 c =
    let a = c.args in
    step_missing (actions_of a.file.now.bytes.now a.file.now.counts) a.set.0 a.a (settled a.set.0 a.course a.self.now.labels) (small (goal.at.returns-then-course-wide-ne0 c).Start) c.requires.2
    (c.wide.ensures ∙ c.precondition.ensures) c.if-course-wide-ne0.true

pub returns : goal.returns
unfolding actions_of
returns c =
    let a = c.args in
    step_made (actions_of a.file.now.bytes.now a.file.now.counts) a.set.0 a.a (settled a.set.0 a.course a.self.now.labels) (small (goal.at.returns c).Start) c.requires.2
    (c.wide.ensures ∙ c.precondition.ensures)
    {labels' = settled a.set.0 (next_of a.course c.apply.result) c.apply.new.self.labels}
    c.if-course-wide-ne0.false (word (goal.at.returns c).Start) c.apply.ensures.0 c.apply.ensures.1

pub apply-requires : goal.apply-requires
unfolding actions_of
apply-requires c = (
  subst (λ (x : ℕ). x < 2 ^ c.args.file.now.counts.effects) (sym (word (goal.at.apply-requires c).Start))
      (effects_lt (actions_of c.args.file.now.bytes.now c.args.file.now.counts) c.args.a),
  c.requires.2,
)
