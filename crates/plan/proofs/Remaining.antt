-- The members of a set that a loop has still before it, from the lowest on.
-- Assumes nothing.
use mathlib.Core.Path.{◌≡◌, refl, sym, ap, subst, ◌∙◌}
use mathlib.Core.Bool.{Bool, false, So}
use Prim.Native.Nat.{ℕ, ◌^◌, ◌≤◌, ◌<◌}
use native.Mathlib.Decide.{dec_lt}
use native.Mathlib.Omega.{arith}
use mathlib.Core.Logic.{by_cases}
use lib.Count.{count_trailing_zeros, trailing_of_zero}
use Rattle.rules.specs.Test.{◌and◌, fails}
use Rattle.rules.specs.Word.{bit, without, single}
use Rattle.rules.proofs.Tests.{same_not, and_true}
use Rattle.rules.proofs.Words.{bit_without, bit_single, lowest_has, without_lt}
use Rattle.words.specs.Width.{word_width}
use Rattle.words.proofs.Lowest.{others_above, no_lower}
use Rattle.words.proofs.MemberLoops.{lowest_lt}

-- from its lowest member on, w has the members of the set
pub record Left (set w : ℕ) : Type 0 where
  pub word : w < 2 ^ word_width
  pub from : (q : ℕ) → count_trailing_zeros word_width w ≤ q → bit q w ≡ bit q set

pub left_all : {set : ℕ} → set < 2 ^ word_width → Left set set
left_all h = record { word = h; from = λ q l. refl }

-- once the lowest is taken out
module _ {set w w' : ℕ} (l : Left set w) (some : 0 < w) (e : w' ≡ without w (single (count_trailing_zeros word_width w))) where
  other : (q : ℕ) → count_trailing_zeros word_width w < q → bit q w' ≡ bit q w
  unfolding fails
  other q h =
      ap (bit q) e ∙ bit_without q w _
      ∙ ap (λ (b : Bool). bit q w and fails b) (bit_single q (count_trailing_zeros word_width w) ∙ same_not (λ i. omega arith)) ∙ and_true

  fits : w' < 2 ^ word_width
  fits = subst (λ (x : ℕ). x < 2 ^ word_width) (sym e) (without_lt word_width _ l.word)

  -- the next one lies above it
  pub left_above : count_trailing_zeros word_width w < count_trailing_zeros word_width w'
  left_above = by_cases (dec_lt 0 w')
      (λ h. others_above word_width w _ l.word (sym (ap (bit (count_trailing_zeros word_width w')) e) ∙ lowest_has word_width fits (λ z. omega arith)))
      (λ h.
      let z : w' ≡ 0 = omega arith in
      omega (arith, lowest_lt word_width w (omega arith) l.word some, ap (count_trailing_zeros word_width) z, trailing_of_zero word_width))

  -- what lies between is not in the set
  pub left_between : (q : ℕ) → count_trailing_zeros word_width w < q → q < count_trailing_zeros word_width w' → bit q set ≡ false
  left_between q h m = sym (l.from q (omega arith)) ∙ sym (other q h) ∙ no_lower word_width w' q m

  pub left_on : Left set w'
  left_on = record { word = fits; from = λ q m. other q (omega (arith, left_above)) ∙ l.from q (omega (arith, left_above)) }

-- the lowest is a member, and below it there is none
pub left_lowest : {set w : ℕ} → Left set w → 0 < w → So (bit (count_trailing_zeros word_width w) set)
left_lowest {set} {w} l some = sym (l.from _ (omega arith)) ∙ lowest_has word_width l.word (λ z. omega arith)
