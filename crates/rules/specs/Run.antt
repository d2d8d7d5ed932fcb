-- Running a sequence of actions from each state of a set.
use Rattle.std.specs.Prelude.{ℕ, suc, ◌+◌, Bool, List, [], ◌∷◌, get_or}
use Rattle.rules.specs.Test.{◌and◌, ◌implies◌, same, choose}
use Rattle.rules.specs.Word.{bit, union, without, within}
use Rattle.rules.specs.Over.{keep, join_over, all_below}
use Rattle.rules.specs.Lists.{list_over}
use Rattle.rules.specs.Domain.{Actions}

-- 'A step needs its precondition in every state of S': of n states, whose sets are xs
unfoldable pub ready : Actions → ℕ → ℕ → ℕ → List ℕ → Bool
ready A n set a xs = all_below n (λ s. bit s set implies within (A.pre a) (get_or xs s 0))

-- request Three: 'A run fires every effect whose antecedent held before the step', of the action a in a state that has x
unfoldable pub fires : Actions → ℕ → ℕ → ℕ → Bool
fires A a x e = same (A.owner e) a and within (A.when e) x

-- what the sets f of the fired effects have together
unfoldable pub fired : Actions → ℕ → ℕ → (ℕ → ℕ) → ℕ
fired A a x f = join_over A.effects (λ e. keep (fires A a x e) (f e))

-- request Five: 'Deletes are removed first, adds joined after', 'over all fired effects'
unfoldable pub after : Actions → ℕ → ℕ → ℕ
after A a x = union (without x (fired A a x A.del)) (fired A a x A.add)

-- 'states outside S keep their start'
unfoldable pub stepped : Actions → ℕ → ℕ → ℕ → List ℕ → List ℕ
stepped A n set a xs = list_over n (λ s. choose (bit s set) (after A a (get_or xs s 0)) (get_or xs s 0))

-- request Eight: 'changed none': every state of S is as it was; states outside S do not count
unfoldable pub idle : Actions → ℕ → ℕ → ℕ → List ℕ → Bool
idle A n set a xs = all_below n (λ s. bit s set implies same (after A a (get_or xs s 0)) (get_or xs s 0))

-- the end sets, or the index of the first step that lacks its precondition
pub data Ran : Type 0 where
  ended : List ℕ → Ran
  lacks : ℕ → Ran

-- from step i on
unfoldable pub run_from : Actions → ℕ → ℕ → ℕ → List ℕ → List ℕ → Ran
run_from A n set i xs [] = ended xs
run_from A n set i xs (a ∷ list) = choose (ready A n set a xs) (run_from A n set (suc i) (stepped A n set a xs) list) (lacks i)

-- 'A list .. runs from each state of S': the list may have any length
unfoldable pub run_of : Actions → ℕ → (ℕ → ℕ) → ℕ → List ℕ → Ran
run_of A n start set list = run_from A n set 0 (list_over n start) list

-- request Eight: 'the number of idle ones' of a list, from the sets xs on
unfoldable pub idle_from : Actions → ℕ → ℕ → List ℕ → List ℕ → ℕ
idle_from A n set xs [] = 0
idle_from A n set xs (a ∷ list) = keep (idle A n set a xs) 1 + idle_from A n set (stepped A n set a xs) list

unfoldable pub idle_of : Actions → ℕ → (ℕ → ℕ) → ℕ → List ℕ → ℕ
idle_of A n start set list = idle_from A n set (list_over n start) list
