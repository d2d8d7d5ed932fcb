-- Cause 13 where no layer meets the goal; else the descent from the level, through memory that is as wide as a layer.
use Prim.Native.Nat.{ℕ, ◌+◌, ◌^◌, ◌<◌}
use mathlib.Core.List.{[]}
use mathlib.Core.Path.{◌≡◌, sym, ap, subst, ◌∙◌}
use native.Mathlib.Nat.{le_trans, le_of_eq}
use native.Mathlib.Omega.{arith}
use lib.ListN.{length, take, replicate}
use lib.Seq.{length-take-le}
use Rattle.rules.specs.Word.{bit}
use Rattle.rules.specs.Over.{keep}
use Rattle.rules.specs.Lists.{list_over}
use Rattle.rules.specs.Domain.{domain, shape_of}
use Rattle.rules.specs.Level.{first_met}
use Rattle.rules.specs.Plan.{descend}
use Rattle.rules.specs.declared.Shape.{Shape}
use Rattle.words.specs.Width.{prop_width}
use Rattle.words.proofs.Zeros.{zeros}
use Rattle.graph.specs.Limits.{max_depth}
use Rattle.graph.specs.Format.{actions_of}
use Rattle.graph.specs.Checks.{Room}
use Rattle.graph.proofs.Graphs.{shape_is}
use Rattle.level.proofs.Parts.{fewer}
use Rattle.plan.specs.Plan.{planned_verdict}
use Rattle.plan.proofs.Answers.{plan_refused, equal_rule_lem, no_level_lem, at_level, room_deep}
use Rattle.plan.proofs.Readings.{needs_long, adders_long, read_descend}
use Rattle.plan.proofs.plan_over.Goals as goal
use Rattle.plan.proofs.plan_over.Goals.{After-first_met-t, Else-depth-t}

pub invariant_of-layers : goal.invariant_of-layers
invariant_of-layers c = record { room = subst (λ (S : Shape). Room S c.args.depth c.args.words.now) (sym c.shape-shape.ensures) c.requires.0 }

-- the level that was found is that of the file's graph
met : (c : After-first_met-t)
    → let a = c.args in
    c.first_met-t.result ≡ first_met (shape_of (domain (actions_of a.file.now.bytes.now a.file.now.counts))) a.depth a.set.0 a.goal.0 a.words.now
met c =
    let a = c.args in
    c.first_met-t.ensures
    ∙ ap (λ (S : Shape). first_met S a.depth a.set.0 a.goal.0 a.words.now) (c.shape-shape.ensures ∙ sym (shape_is a.file.now.bytes.now a.file.now.counts))

pub returns-then-depth-t : goal.returns-then-depth-t
returns-then-depth-t c = plan_refused _ _ _ _ (no_level_lem _ _ _ _ _ _ (met (goal.at.returns-then-depth-t c).After-first_met-t) c.if-depth-t.true)

-- the plan's words are as many as the level
long : (c : Else-depth-t) → length {A = ℕ} (take c.first_met-t.result (replicate max_depth 0)) ≡ c.first_met-t.result
long c = length-take-le {A = ℕ} c.first_met-t.result (replicate max_depth 0) (le_trans c.if-depth-t.false c.requires.0.deep)

pub slice_bounds-lent_effects-end : goal.slice_bounds-lent_effects-end
slice_bounds-lent_effects-end c = sym (length-take-le _ _ (omega (arith, c.args.file.now.taken.ranged.effects)))

pub slice_bounds-lent_effects-end-2 : goal.slice_bounds-lent_effects-end-2
slice_bounds-lent_effects-end-2 c = sym (length-take-le _ _ (omega (arith, c.args.file.now.taken.ranged.effects)))

pub slice_bounds-lent_effects-end-3 : goal.slice_bounds-lent_effects-end-3
slice_bounds-lent_effects-end-3 c = sym (length-take-le _ _ (omega (arith, c.args.file.now.taken.ranged.props)))

pub slice_bounds-plan_in-end : goal.slice_bounds-plan_in-end
slice_bounds-plan_in-end c = sym (length-take-le _ _ (omega (arith, c.args.file.now.taken.ranged.props)))

pub slice_bounds-plan_in-end-2 : goal.slice_bounds-plan_in-end-2
slice_bounds-plan_in-end-2 c = sym (long (goal.at.slice_bounds-plan_in-end-2 c).Else-depth-t)

pub lent_effects-effects-requires : goal.lent_effects-effects-requires
lent_effects-effects-requires c = (
  length-take-le _ _ (omega (arith, c.args.file.now.taken.ranged.effects)),
  length-take-le _ _ (omega (arith, c.args.file.now.taken.ranged.effects)),
  zeros _ prop_width c.args.file.now.taken.ranged.props,
)

pub plan_in-requires : goal.plan_in-requires
plan_in-requires c =
    let a = c.args in
    let file = a.file.now in
    let r = c.lent_effects-effects.ensures in
    let n = needs_long file.bytes.now file.counts file.taken _ _ _ r.0 r.1 r.2 in
    let m = adders_long file.bytes.now file.counts file.taken _ _ _ r.0 r.1 r.2 in (
      subst (λ (S : Shape). Room S (length {A = ℕ} (take c.first_met-t.result (replicate max_depth 0))) a.words.now) (λ i. record { props = sym m i; vertices = sym n i + sym m i })
          (room_deep _ (long (goal.at.plan_in-requires c).Else-depth-t) (fewer c.requires.0 _ c.if-depth-t.false)),
      subst (λ (x : ℕ). a.goal.0 < 2 ^ x) (sym m) c.requires.1,
      zeros _ prop_width file.taken.ranged.props ∙ ap (λ (x : ℕ). list_over x (λ p. 0)) (sym m),
      le_trans (le_of_eq (long (goal.at.plan_in-requires c).Else-depth-t)) (le_trans c.if-depth-t.false c.requires.2),
    )

pub returns : goal.returns
unfolding actions_of
returns c =
    let a = c.args in
    let file = a.file.now in
    let r = c.lent_effects-effects.ensures in
    let m = adders_long file.bytes.now file.counts file.taken _ _ _ r.0 r.1 r.2 in
    equal_rule_lem a.out.now _ _
    (ap (planned_verdict a.depth)
    (read_descend file.bytes.now file.counts file.taken _ _ _ r.0 r.1 r.2 a.words.now _ a.set.0 a.goal.0 _ (ap (λ (x : ℕ). list_over x (λ p. keep (bit p a.goal.0) a.set.0)) m)
    ∙ ap (λ (x : ℕ). descend (actions_of a.file.now.bytes.now a.file.now.counts) a.words.now x (list_over a.file.now.counts.props (λ p. keep (bit p a.goal.0) a.set.0)) [])
    (long (goal.at.returns c).Else-depth-t)
    ∙ at_level (actions_of a.file.now.bytes.now a.file.now.counts) a.depth a.set.0 a.goal.0 a.words.now _ (met (goal.at.returns c).After-first_met-t) c.if-depth-t.false))
    (c.plan_in.ensures a.depth)
