-- `first` meets its contract: all ones, shifted down.
use Rattle.std.proofs.Common.{ℕ, ◌<◌, ◌-◌, ◌^◌, ◌∙◌, arith, ap, subst, sym}
use native.Mathlib.Nat.{lt_of_lt_of_le}
use lib.Pow.{pow_mono}
use Rattle.rules.proofs.Words.{ones_shift, first_lt}
use Rattle.words.proofs.sets.Set.first.Goals as goal

pub returns-then-n-eq0 : goal.returns-then-n-eq0
returns-then-n-eq0 g c = c.from_word.ensures ∙ ap (λ (x : ℕ). 2 ^ x - 1) (sym c.if-n-eq0.true)

pub from_word-requires-2 : goal.from_word-requires-2
from_word-requires-2 g c =
    subst (λ (x : ℕ). x < 2 ^ g.Self.Set.width) (sym (ones_shift {n = c.args.n} 64 (omega (arith, g.met.Self.Set.narrow))))
    (lt_of_lt_of_le (first_lt c.args.n) (pow_mono c.requires))

pub returns : goal.returns
returns g c = c.from_word-2.ensures ∙ ones_shift {n = c.args.n} 64 (omega (arith, g.met.Self.Set.narrow))
