-- The effects' rows are emptied first.
use Prim.Native.Nat.{ℕ, ◌+◌, ◌*◌, ◌≤◌}
use mathlib.Core.Path.{ap, ◌∙◌}
use mathlib.Core.List.{List}
use native.Mathlib.Omega.{arith}
use lib.ListN.{length, get_or}
use Rattle.words.specs.Rows.{row_length, cell}
use Rattle.words.proofs.Writes.{front_word}
use Rattle.together.proofs.few.few.Goals as goal

pub overflow_mul-effects : goal.overflow_mul-effects
overflow_mul-effects c = omega (arith, c.args.effects.listed.few)

pub clear-requires : goal.clear-requires
clear-requires c = omega (arith, c.args.effects.listed.few)

pub few_effects-requires : goal.few_effects-requires
unfolding cell
few_effects-requires c =
    let few = c.args.effects.listed.few in
    let mates = c.args.tables.now.mates in
    let room : length c.args.effects.needs.now * row_length ≤ length mates = omega arith in (
      c.requires,
      λ i k l h.
          ap (λ (w : List ℕ). get_or w (i * row_length + k) 0) c.clear.ensures
          ∙ front_word _ (i * row_length + k) (λ q. 0) mates room (omega arith),
    )
