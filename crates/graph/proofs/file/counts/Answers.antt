-- `file::counts` meets its contract: it reads the version and the counts.
use mathlib.Core.Path.{ap, ◌∙◌}
use Prim.Native.Nat.{ℕ}
use native.Mathlib.Omega.{arith}
use lib.ListN.{get_or}
use Rattle.graph.specs.Format.{counts_in, effects_place}
use Rattle.graph.proofs.file.counts.Goals as goal

pub byte-requires-3 : goal.byte-requires-3
byte-requires-3 c = omega (arith, c.effects_offset.ensures ∙ ap effects_place c.version-version.ensures, c.requires.1)

pub returns : goal.returns
unfolding counts_in
returns c = λ i. record {
  version = c.version-version.ensures i;
  props = c.byte.ensures.0 i;
  actions = c.byte-2.ensures.0 i;
  effects = (c.byte-3.ensures.0 ∙ ap (λ (x : ℕ). get_or c.args.file.now x 0)
      (c.effects_offset.ensures ∙ ap effects_place c.version-version.ensures)) i;
  states = c.byte-4.ensures.0 i;
}
