use Prim.Native.Nat.{◌<◌}
use mathlib.Core.Path.{sym, ◌∙◌}
use native.Mathlib.Omega.{arith}
use lib.ListN.{length}
use Rattle.rules.proofs.Tests.{is_fails}
use Rattle.run.proofs.Evens.{foretell_none, foretell_lt, foretell_part, foretell_more, foretell_done}
use Rattle.run.proofs.even.foretell.Goals as goal
use Rattle.run.proofs.even.foretell.Goals.{In-Some}

pub loop-e-init : goal.loop-e-init
loop-e-init c = rw c.into_iter-e-iterator.ensures.into_iter_gives (foretell_none c.args.evens.now.fit.few c.requires)

-- the next effect has its words in both lists
named : (c : In-Some) → c.in-Some.e < length c.args.evens.now.when.now
named c = foretell_lt c.loop-e.invariant c.in-Some.ensures.steps.some c.in-Some.ensures.steps.is

pub offset_bounds-evens-e : goal.offset_bounds-evens-e
offset_bounds-evens-e c = omega (arith, named (goal.at.offset_bounds-evens-e c).In-Some, c.loop-e.invariant.few)

pub bounds-evens-e : goal.bounds-evens-e
bounds-evens-e c = named (goal.at.bounds-evens-e c).In-Some

pub returns-then-untold : goal.returns-then-untold
returns-then-untold c =
    foretell_part c.loop-e.invariant c.in-Some.ensures.steps.some c.in-Some.ensures.steps.is
    (sym c.untold.ensures ∙ c.if-untold.true)

pub offset_bounds-evens-e-in-loop-e : goal.offset_bounds-evens-e-in-loop-e
offset_bounds-evens-e-in-loop-e c = omega (arith, named (goal.at.offset_bounds-evens-e-in-loop-e c).In-Some, c.loop-e.invariant.few)

pub bounds-evens-e-in-loop-e : goal.bounds-evens-e-in-loop-e
bounds-evens-e-in-loop-e c = named (goal.at.bounds-evens-e-in-loop-e c).In-Some

pub offset_bounds-evens-e-in-loop-e-2 : goal.offset_bounds-evens-e-in-loop-e-2
offset_bounds-evens-e-in-loop-e-2 c = omega (arith, named (goal.at.offset_bounds-evens-e-in-loop-e-2 c).In-Some, c.loop-e.invariant.few)

pub bounds-evens-e-in-loop-e-2 : goal.bounds-evens-e-in-loop-e-2
bounds-evens-e-in-loop-e-2 c =
    omega (arith, named (goal.at.bounds-evens-e-in-loop-e-2 c).In-Some, c.args.evens.now.fit.as_goes)

pub loop-e-preserved : goal.loop-e-preserved
loop-e-preserved c =
    foretell_more c.loop-e.invariant c.in-Some.ensures.steps.some c.in-Some.ensures.steps.is
    (is_fails (sym c.untold.ensures ∙ c.if-untold.false)) c.gone_by-all.ensures c.in-Some.ensures.steps.others

pub returns : goal.returns
returns c = foretell_done c.loop-e.invariant (omega (arith, c.in-None.ensures.steps.0))
