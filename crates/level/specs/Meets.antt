-- A goal in a layer, by its members: one proposition and one pair at a time; and what the searches over layers find.
use Rattle.std.specs.Prelude.{ℕ, suc, ◌≤◌, ◌<◌, ◌≡◌, Bool, false, List, get_or}
use Rattle.std.proofs.Math.Bool.{So}
use Rattle.rules.specs.Test.{◌implies◌, fails, same, below, choose}
use Rattle.rules.specs.Word.{bit, common, within, meets}
use Rattle.rules.specs.Over.{all_below}
use Rattle.rules.specs.Layer.{size, label_in, mutex_in, props_in}
use Rattle.rules.specs.Level.{goal_met}
use Rattle.rules.specs.declared.Shape.{Shape}

-- f holds at each member of the set, of n
unfoldable pub all_of : ℕ → ℕ → (ℕ → Bool) → Bool
all_of n set f = all_below n (λ i. bit i set implies f i)

-- 'each goal label contains S'
abbrev pub label_meets : List ℕ → ℕ → ℕ → Bool
label_meets l set p = within set (label_in l p)

-- 'no mutex word of two goals meets S', in a layer of n propositions
unfoldable pub pair_meets : ℕ → List ℕ → ℕ → ℕ → ℕ → Bool
pair_meets n l set p q = fails (meets set (mutex_in n l p q))

-- each member of the set lies above p
abbrev pub Above : ℕ → ℕ → Type 0
Above p set = (q : ℕ) → So (bit q set) → p < q

-- a search among the members of the set, of n, has found one at which f does not hold, or n where it holds at all
pub record Found (f : ℕ → Bool) (n set found : ℕ) : Type 0 where
  pub all : n ≤ found → So (all_of n set f)
  pub one : found < n → So (bit found set)
  pub not : found < n → f found ≡ false

-- what the word at a place shows of S in a layer of n propositions that meets the goal: a label all of it, a mutex word nothing
unfoldable pub shown_at : ℕ → ℕ → ℕ → ℕ
shown_at n set place = choose (below place n) set 0

-- what is found of a layer: the place of a word that keeps the goal from being met, here and wherever it does not show that; or the layer's size where the goal is met
pub record Judged (n : ℕ) (l : List ℕ) (set goal found : ℕ) : Type 0 where
  pub met : size n ≤ found → So (goal_met n l set goal)
  pub not : found < size n → So (goal_met n l set goal) → ⊥
  pub shows : found < size n → (other : List ℕ) → So (goal_met n other set goal) → common (get_or other found 0) set ≡ shown_at n set found

-- of the layers up to k those from one on have been passed over, up to the one found: in each of them the word at the place shows something else
pub record PassedOver (S : Shape) (words : List ℕ) (k set place shows from found : ℕ) : Type 0 where
  pub rises : from ≤ found
  pub within : found ≤ suc k
  pub each : (t : ℕ) → from ≤ t → t < found → common (get_or (props_in S words t) place 0) set ≡ shows → ⊥

-- two lists have the same word at i
abbrev pub same_at : List ℕ → List ℕ → ℕ → Bool
same_at one other i = same (get_or one i 0) (get_or other i 0)
