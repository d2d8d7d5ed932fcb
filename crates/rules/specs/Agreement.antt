-- What it means that words agree with one state's own graph ('Extract', its last sentence).
use Rattle.std.specs.Prelude.{ℕ, ◌≤◌, ◌<◌, ◌≡◌, List, get_or}
use Rattle.rules.specs.Word.{bit}
use Rattle.rules.specs.Domain.{Domain, shape_of}
use Rattle.rules.specs.Layer.{label_in, mutex_in, props_in, actions_in}
use Rattle.rules.specs.Own.{Own, mutex, own_actions, own_props}

-- of n elements: bit s of a label says whether L holds the element, bit s of a mutex word whether the two are mutex in L
pub record Agrees (s n : ℕ) (l : List ℕ) (L : Own) : Type 0 where
  pub label : (i : ℕ) → i < n → bit s (label_in l i) ≡ L.has i
  pub pair : (i j : ℕ) → i < n → j < n → bit s (mutex_in n l i j) ≡ mutex L i j

-- 'bit 0 of a label is set exactly when the element is in that layer of the own graph, bit 0 of a mutex word exactly when both are in it and mutex
-- there; all other bits are 0': of the own graph of x, up to depth k
pub record OneState (D : Domain) (k x : ℕ) (words : List ℕ) : Type 0 where
  pub props : (t : ℕ) → t ≤ k → Agrees 0 D.props (props_in (shape_of D) words t) (own_props D x t)
  pub actions : (t : ℕ) → t < k → Agrees 0 D.vertices (actions_in (shape_of D) words t) (own_actions D (own_props D x t))
  pub small : (i : ℕ) → get_or words i 0 < 2
