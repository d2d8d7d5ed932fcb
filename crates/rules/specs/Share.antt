-- Request Seven, 'Enough of the weight': the level at a share of the start states.
use Rattle.std.specs.Prelude.{ℕ, suc, ◌*◌, Bool, List, length, get_or}
use Rattle.rules.specs.Test.{fails, below}
use Rattle.rules.specs.Word.{bit, first}
use Rattle.rules.specs.Over.{keep, sum_over, first_below}
use Rattle.rules.specs.declared.Shape.{Shape}
use Rattle.rules.specs.Layer.{props_in}
use Rattle.rules.specs.Shared.{vertex_label}
use Rattle.rules.specs.Level.{Level, level_by}

-- 'Each state gets a whole weight .. and the share is a fraction of two such numbers.'
pub record Share : Type 0 where
  pub weights : List ℕ
  pub numerator : ℕ
  pub denominator : ℕ

abbrev pub share_of : List ℕ → ℕ → ℕ → Share
share_of weights numerator denominator = record { weights = weights; numerator = numerator; denominator = denominator }

-- the weight of the states of a set: those that have none weigh nothing
unfoldable pub weight_of : List ℕ → ℕ → ℕ
weight_of weights set = sum_over (length weights) (λ s. keep (bit s set) (get_or weights s 0))

-- 'the total weight'
unfoldable pub total : List ℕ → ℕ
total weights = sum_over (length weights) (λ s. get_or weights s 0)

-- 'states with the whole goal, free of mutexes', of these states and in a layer of n propositions: the label of a vertex that needs the goal
abbrev pub holders : ℕ → ℕ → List ℕ → ℕ → ℕ
holders n all l goal = vertex_label n all l goal

-- the weight of these states, 'times the denominator, is at least the total weight times the numerator'
unfoldable pub enough : Share → ℕ → Bool
enough share set = fails (below (weight_of share.weights set * share.denominator) (total share.weights * share.numerator))

-- 'the first layer where' that holds, from 0 to k, and k + 1 where there is none
unfoldable pub first_enough : Shape → ℕ → Share → ℕ → List ℕ → ℕ
first_enough S k share goal words =
    first_below (suc k) (λ t. enough share (holders S.props (first (length share.weights)) (props_in S words t) goal))

-- 'with no such layer, never or not by depth as at the level'
unfoldable pub share_level : Shape → ℕ → Share → ℕ → List ℕ → Level
share_level S k share goal words = level_by S k words (first_enough S k share goal words)
