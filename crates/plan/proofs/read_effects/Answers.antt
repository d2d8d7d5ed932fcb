-- Where the effects add much, what was read into the square, and its columns.
use Prim.Native.Nat.{ℕ}
use mathlib.Core.Path.{ap, ◌∙◌}
use native.Mathlib.Nat.{le_refl}
use native.Mathlib.Omega.{arith}
use lib.ListN.{length, replicate}
use Rattle.rules.proofs.Layers.{length_list_over}
use Rattle.words.specs.Width.{prop_width}
use Rattle.words.proofs.Zeros.{zeros}
use Rattle.graph.specs.Format.{actions_of}
use Rattle.plan.proofs.Readings.{square_adders}
use borrow.Author.Rules.{rules}
use Rattle.plan.proofs.read_effects.Goals as goal

pub columns_of_square-requires : goal.columns_of_square-requires
columns_of_square-requires c =
    (omega (arith, ap length c.requires.2, length_list_over c.args.file.now.counts.props (λ p. 0), c.args.file.now.taken.ranged.props), search rules)

pub returns : goal.returns
returns c =
    let a = c.args in
    let did = c.read_sets.ensures in (
      did.0,
      did.1,
      c.columns_of_square.ensures
          ∙ square_adders a.file.now.counts.props a.file.now.counts.effects (actions_of a.file.now.bytes.now a.file.now.counts).add a.adders.now (replicate {A = ℕ} prop_width 0) _
          c.requires.2 c.args.file.now.taken.ranged.effects (zeros prop_width prop_width (le_refl prop_width)) did.2,
    )
