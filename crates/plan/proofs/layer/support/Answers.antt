use Prim.Native.Nat.{ℕ, ◌^◌, ◌<◌}
use mathlib.Core.Path.{refl, sym, ap, subst, ◌∙◌}
use native.Mathlib.Omega.{arith}
use lib.ListN.{length, get_or}
use Rattle.rules.proofs.Layers.{length_list_over}
use Rattle.plan.proofs.Supports.{lay_none, lay_lt, lay_open, lay_end, seek_lt, seek_on, seek_clear, seek_end}
use Rattle.plan.proofs.layer.support.Goals as goal
use Rattle.plan.proofs.layer.support.Goals.{In-Some-e}

pub props-init : goal.props-init
props-init c =
    rw c.into_iter-p-iterator.ensures.into_iter_gives (lay_none c.requires.0 c.requires.1 refl refl c.wide.ensures)

pub offset_bounds-wanted-p : goal.offset_bounds-wanted-p
offset_bounds-wanted-p c =
    omega (arith, c.in-Some.ensures.steps.is, lay_lt c.props.invariant c.in-Some.ensures.steps.some, c.props.invariant.lists.wide)

pub bounds-wanted-p : goal.bounds-wanted-p
bounds-wanted-p c =
    omega (arith, c.in-Some.ensures.steps.is, lay_lt c.props.invariant c.in-Some.ensures.steps.some, c.props.invariant.lists.wide)

pub overflow_add-effects : goal.overflow_add-effects
overflow_add-effects c =
    omega (arith, c.in-Some.ensures.steps.is, lay_lt c.props.invariant c.in-Some.ensures.steps.some, c.props.invariant.lists.wide, c.props.invariant.lists.tables.few, c.props.invariant.lists.tables.props)

pub offset_bounds-labels-effects : goal.offset_bounds-labels-effects
offset_bounds-labels-effects c =
    omega (arith, c.in-Some.ensures.steps.is, lay_lt c.props.invariant c.in-Some.ensures.steps.some, c.props.invariant.lists.wide, c.props.invariant.lists.tables.few, c.props.invariant.lists.tables.props)

pub bounds-labels-effects : goal.bounds-labels-effects
bounds-labels-effects c =
    omega (arith, c.in-Some.ensures.steps.is, lay_lt c.props.invariant c.in-Some.ensures.steps.some, c.props.invariant.lists.wide, c.props.invariant.lists.labelled)

pub carry-s-requires : goal.carry-s-requires
carry-s-requires c =
    let l = c.props in (
      omega (arith, c.in-Some.ensures.steps.is, lay_lt c.props.invariant c.in-Some.ensures.steps.some, c.props.invariant.lists.wide, l.invariant.long),
      omega (arith, l.invariant.long, l.invariant.lists.tables.props),
      l.invariant.live,
    )

pub offset_bounds-effects-p : goal.offset_bounds-effects-p
offset_bounds-effects-p c =
    omega (arith, c.in-Some.ensures.steps.is, lay_lt c.props.invariant c.in-Some.ensures.steps.some, c.props.invariant.lists.wide, c.props.invariant.lists.tables.props)

pub bounds-effects-p : goal.bounds-effects-p
bounds-effects-p c =
    omega (arith, c.in-Some.ensures.steps.is, lay_lt c.props.invariant c.in-Some.ensures.steps.some, c.props.invariant.lists.wide)

pub loop-e-init : goal.loop-e-init
loop-e-init c =
    rw c.into_iter-e-iterator.ensures.into_iter_gives (lay_open c.props.invariant c.in-Some.ensures.steps.some c.in-Some.ensures.steps.is refl refl c.carry-s.ensures)

pub props-preserved-then-s-eq0 : goal.props-preserved-then-s-eq0
props-preserved-then-s-eq0 c = seek_clear c.props.invariant c.in-Some.ensures.steps.some c.in-Some.ensures.steps.is c.in-Some.ensures.steps.others c.loop-e.invariant c.if-s-eq0.true

-- the effect that takes its turn is one of the lists
listed : (c : In-Some-e)
    → c.in-Some-e.e < length c.args.effects.now.needs.now
listed c =
    omega (arith, c.in-Some-e.ensures.steps.is, seek_lt c.loop-e.invariant c.in-Some-e.ensures.steps.some)

pub bounds-effects-e : goal.bounds-effects-e
bounds-effects-e c =
    let tables = c.loop-e.invariant.lists.tables in
    omega (arith, listed (goal.at.bounds-effects-e c).In-Some-e, tables.owned, tables.few)

pub overflow_cast-effects : goal.overflow_cast-effects
overflow_cast-effects c = omega (arith, c.loop-e.invariant.lists.tables.owner _ (listed (goal.at.overflow_cast-effects c).In-Some-e))

pub offset_bounds-labels-e : goal.offset_bounds-labels-e
offset_bounds-labels-e c = omega (arith, listed (goal.at.offset_bounds-labels-e c).In-Some-e, c.loop-e.invariant.lists.tables.few)

pub bounds-labels-e : goal.bounds-labels-e
bounds-labels-e c = omega (arith, listed (goal.at.bounds-labels-e c).In-Some-e, c.loop-e.invariant.lists.labelled)

pub offset_bounds-effects-e : goal.offset_bounds-effects-e
offset_bounds-effects-e c = omega (arith, listed (goal.at.offset_bounds-effects-e c).In-Some-e, c.loop-e.invariant.lists.tables.few)

pub bounds-effects-e-in-loop-e : goal.bounds-effects-e-in-loop-e
bounds-effects-e-in-loop-e c = omega (arith, listed (goal.at.bounds-effects-e-in-loop-e c).In-Some-e)

pub turn-s-requires : goal.turn-s-requires
turn-s-requires c =
    let l = c.loop-e.invariant in (
      l.lists.tables.owner _ (listed (goal.at.turn-s-requires c).In-Some-e),
      subst (λ (x : ℕ). get_or c.args.effects.now.needs.now c.in-Some-e.e 0 < 2 ^ x) (sym l.long) (l.lists.tables.need _ (listed (goal.at.turn-s-requires c).In-Some-e)),
      omega (arith, l.long, l.lists.tables.props),
      l.live,
    )

pub loop-e-preserved : goal.loop-e-preserved
loop-e-preserved c =
    seek_on c.loop-e.invariant c.in-Some-e.ensures.steps.some c.if-s-eq0.false
    c.in-Some-e.ensures.steps.is c.in-Some-e.ensures.steps.others refl refl refl c.turn-s.ensures

pub shape_of-under-then-s-ne0 : goal.shape_of-under-then-s-ne0
shape_of-under-then-s-ne0 c = c.loop-e.invariant.long ∙ sym (ap length c.requires.1 ∙ length_list_over _ _)

pub returns-then-s-ne0 : goal.returns-then-s-ne0
returns-then-s-ne0 c = seek_end c.loop-e.invariant (omega (arith, c.in-None-e.ensures.steps.0)) c.if-s-ne0.true

pub props-preserved : goal.props-preserved
props-preserved c = seek_clear c.props.invariant c.in-Some.ensures.steps.some c.in-Some.ensures.steps.is c.in-Some.ensures.steps.others c.loop-e.invariant c.if-s-ne0.false

pub shape_of-under : goal.shape_of-under
shape_of-under c = c.props.invariant.long ∙ sym (ap length c.requires.1 ∙ length_list_over _ _)

pub returns : goal.returns
returns c = lay_end c.props.invariant (omega (arith, c.in-None.ensures.steps.0))
