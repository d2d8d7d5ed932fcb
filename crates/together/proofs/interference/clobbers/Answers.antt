-- `interference::clobbers` meets its contract: the set operations are those of the definition.
use mathlib.Core.Path.{ap, ◌∙◌}
use Prim.Native.Nat.{ℕ}
use lib.ListN.{get_or}
use Rattle.rules.specs.Word.{meets}
use Rattle.together.specs.Interference.{clobbers_in}
use Rattle.together.proofs.interference.clobbers.Goals as goal

pub returns : goal.returns
unfolding clobbers_in
returns c =
    c.meets.ensures ∙ ap (λ (x : ℕ). meets (get_or c.args.sets.dels.now
    c.args.i 0) x) c.union-used.ensures
