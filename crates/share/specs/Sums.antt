-- Weights as the code sums them, and a layer's states as far as they are looked at.
use Rattle.std.specs.Prelude.{ℕ, ◌≤◌, ◌≡◌, List, length}
use Rattle.std.proofs.Math.Bool.{So}
use Rattle.rules.specs.Test.{◌or◌, fails, same, below, choose}
use Rattle.rules.specs.Word.{within}
use Rattle.rules.specs.Share.{total}
use Rattle.words.specs.Width.{state_width}
use Rattle.graph.specs.Verdict.{Verdict, accepted, refused}

-- no 64 weights of 16 bits come to more: 64 * 65535
abbrev pub max_total : ℕ
max_total = 4194240

-- the total of one weight for each state, and 0 of another number of weights
unfoldable pub total_for : ℕ → List ℕ → ℕ
total_for states weights = choose (same (length weights) states) (total weights) 0

-- cause 18 by it
unfoldable pub rule_by : ℕ → ℕ → ℕ → Verdict (Unit {0})
rule_by sum numerator denominator = choose (same sum 0 or same denominator 0 or below denominator numerator) (refused 18 0) (accepted tt)

-- what the code asks that weighs states: no more weights than a word has states, and this is their total
pub record Weighed (weights : List ℕ) (sum : ℕ) : Type 0 where
  pub few : length weights ≤ state_width
  pub is : sum ≡ total weights
  pub small : sum ≤ max_total

-- what is found in place of a set of states: the set, or where it lies within those that fall short, something that does
pub record Looked (held short found : ℕ) : Type 0 where
  pub inside : So (within found short) → So (within held short)
  pub else : So (fails (within found short)) → found ≡ held
