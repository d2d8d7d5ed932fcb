-- The loop takes one effect after the other.
use mathlib.Core.Path.{◌≡◌}
use Rattle.together.specs.Kept.{Kept}
use Rattle.together.proofs.FewLoops.{Effects}
use Rattle.together.proofs.few.few_effects.Given as goal

abbrev pub invariant-loop-i : goal.invariant-loop-i
invariant-loop-i l =
    let e = l.effects in
    let t = l.tables in
    Kept l.initial.tables t × Effects e.needs.now e.adds.now e.dels.now e.interferers.now t.live t.r l.width l.i t.mates t.besides × (t.spare ≡ l.initial.tables.spare)
