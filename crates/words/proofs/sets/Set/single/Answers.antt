-- `single` meets its contract: a one, shifted up within the word, is a member that the set has room for.
use Rattle.std.proofs.Common.{◌<◌, ◌^◌, ◌∙◌, arith, subst, sym, ℕ}
use Rattle.rules.proofs.Words.{shift_single, single_lt}
use Rattle.words.proofs.sets.Set.single.Goals as goal

pub from_word-requires : goal.from_word-requires
from_word-requires g c =
    subst (λ (x : ℕ). x < 2 ^ g.Self.Set.width) (sym (shift_single 64 {i = c.args.i} (omega (arith, g.met.Self.Set.narrow)))) (single_lt c.requires)

pub returns : goal.returns
returns g c = c.from_word.ensures ∙ shift_single 64 {i = c.args.i} (omega (arith, g.met.Self.Set.narrow))
