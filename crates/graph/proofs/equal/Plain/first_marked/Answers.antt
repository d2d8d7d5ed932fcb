use mathlib.Core.Path.{refl, sym, subst, ◌∙◌}
use Prim.Native.Nat.{◌+◌, ◌<◌}
use native.Mathlib.Omega.{arith}
use lib.ListN.{set}
use Rattle.graph.specs.Limits.{max_actions}
use Rattle.graph.specs.Format.{actions_of}
use Rattle.graph.proofs.Equals.{chained_put, chained_stays, none_equals, Marking, marking_none, marking_last, marking_more, marking_found, marking_done}
use Rattle.graph.proofs.equal.Plain.first_marked.Goals as goal
use Rattle.graph.proofs.equal.Plain.first_marked.Goals.{then-last-ne-NONE+else-equals_earlier, else-last-ne-NONE}

pub loop-a-init : goal.loop-a-init
loop-a-init c = marking_none c.requires.0 c.requires.1

pub bounds-lasts-m : goal.bounds-lasts-m
bounds-lasts-m c = omega (arith, c.mark-m.ensures.1, c.loop-a.invariant.marked.full)

pub overflow_cast-last : goal.overflow_cast-last
overflow_cast-last c = omega (arith, c.slice_known-in-loop-a-1.given c.mark-m.result)

pub equals_earlier-requires : goal.equals_earlier-requires
equals_earlier-requires c =
    let (is, fits) = c.mark-m.ensures in
    (omega arith, c.loop-a.invariant.chained, marking_last c.loop-a.invariant is fits)

pub shape_of-lasts-then-equals_earlier : goal.shape_of-lasts-then-equals_earlier
shape_of-lasts-then-equals_earlier c =
    c.loop-a.invariant.marked.full ∙ sym c.requires.0.full

pub shape_of-befores-then-equals_earlier : goal.shape_of-befores-then-equals_earlier
shape_of-befores-then-equals_earlier c =
    c.loop-a.invariant.chained.room ∙ sym c.requires.1.room

pub returns-then-equals_earlier : goal.returns-then-equals_earlier
returns-then-equals_earlier c = marking_found _ _ c.loop-a.invariant (sym c.equals_earlier.ensures ∙ c.if-equals_earlier.true)

pub bounds-befores-a : goal.bounds-befores-a
bounds-befores-a c =
    omega (arith, c.args.self.now.plain.0.actions, c.loop-a.invariant.chained.room)

pub overflow_cast-lasts : goal.overflow_cast-lasts
overflow_cast-lasts c = omega (arith, c.args.self.now.plain.0.actions)

pub bounds-lasts-m-in-loop-a : goal.bounds-lasts-m-in-loop-a
bounds-lasts-m-in-loop-a c = omega (arith, c.mark-m.ensures.1, c.loop-a.invariant.marked.full)

pub loop-a-preserved : goal.loop-a-preserved
loop-a-preserved c =
    let A = actions_of c.args.self.now.bytes.now c.args.self.now.counts in
    let n = c.args.self.now.counts.actions in
    let m = c.mark-m.result in
    let (is, fits) = c.mark-m.ensures in
    let inv = c.loop-a.invariant in
    let few : c.loop-a.a < max_actions = omega (arith, c.args.self.now.plain.0.actions) in
    elim c.if-last-ne-NONE.branch [
      | then-last-ne-NONE+else-equals_earlier w ↦
          subst (Marking A n (c.loop-a.a + 1) (set c.loop-a.lasts m (c.loop-a.a + 1))) (sym w.befores-is)
          (marking_more inv (omega arith) is fits refl (sym w.equals_earlier.ensures ∙ w.if-equals_earlier.false) (chained_put inv.chained (marking_last inv is fits) few))
      | else-last-ne-NONE w ↦
          subst (Marking A n (c.loop-a.a + 1) (set c.loop-a.lasts m (c.loop-a.a + 1))) (sym w.befores-is)
          (marking_more inv (omega arith) is fits refl (none_equals (marking_last inv is fits) w.if-last-ne-NONE.false)
          (chained_stays inv.chained (marking_last inv is fits) few w.if-last-ne-NONE.false))
    ]

pub shape_of-lasts : goal.shape_of-lasts
shape_of-lasts c = c.loop-a.invariant.marked.full ∙ sym c.requires.0.full

pub shape_of-befores : goal.shape_of-befores
shape_of-befores c = c.loop-a.invariant.chained.room ∙ sym c.requires.1.room

pub returns : goal.returns
returns c = marking_done _ _ c.loop-a.invariant (omega arith)
