-- `file::owner_at` meets its contract: an effect begins with the number of its action.
use mathlib.Core.Path.{sym, ap, ◌∙◌}
use Prim.Native.Nat.{ℕ}
use native.Mathlib.Omega.{arith}
use lib.ListN.{get_or}
use Rattle.graph.proofs.Places.{owner_long, states_long}
use Rattle.graph.proofs.file.owner_at.Goals as goal

pub effect_at-requires : goal.effect_at-requires
effect_at-requires c = (c.requires.0, omega (arith, c.requires.3, c.requires.0.effects))

pub byte-requires : goal.byte-requires
byte-requires c = omega (arith, c.effect_at.ensures, c.requires.3, c.requires.2, states_long c.args.c c.requires.1)

pub returns : goal.returns
returns c = c.byte.ensures.0 ∙ ap (λ (x : ℕ). get_or c.args.file.now x 0) c.effect_at.ensures ∙ sym (owner_long _ c.requires.1 _ _)
