-- What a planning graph is made from: propositions and the vertices of an action layer, each by its number.
use Rattle.std.specs.Prelude.{ℕ, ◌+◌, ◌-◌, ◌<◌, ◌^◌, ◌≡◌, Bool}
use Rattle.rules.specs.Test.{◌and◌, ◌or◌, fails, same, below, choose}
use Rattle.rules.specs.Word.{union, single, meets}
use Rattle.rules.specs.declared.Shape.{Shape}

-- The one notion of a vertex: what it needs and adds are sets of propositions. `interfere` is read of two different vertices, the lower number first.
pub record Domain : Type 0 where
  pub props : ℕ
  pub vertices : ℕ
  pub needs : ℕ → ℕ
  pub adds : ℕ → ℕ
  pub interfere : ℕ → ℕ → Bool

-- how many propositions and vertices it has
abbrev pub shape_of : Domain → Shape
shape_of D = record { props = D.props; vertices = D.vertices }

-- The actions of a problem, 0 to count - 1, have preconditions. What they do is done by the effects, 0 to effects - 1 in file order: each has the number of
-- the action that owns it, an antecedent, and what it adds and deletes. Version 1: each action owns the effect of its own number, whose antecedent is empty.
pub record Actions : Type 0 where
  pub props : ℕ
  pub count : ℕ
  pub pre : ℕ → ℕ
  pub effects : ℕ
  pub owner : ℕ → ℕ
  pub when : ℕ → ℕ
  pub add : ℕ → ℕ
  pub del : ℕ → ℕ

-- request Three: effects 'need precondition and antecedent together'
unfoldable pub condition : Actions → ℕ → ℕ
condition A e = union (A.pre (A.owner e)) (A.when e)

-- 'Effects in file order replace actions as vertices', 'then one persistence per proposition': the vertex that carries p
unfoldable pub persistence : Actions → ℕ → ℕ
persistence A p = A.effects + p

-- '(needs p, adds p, deletes nothing)'
unfoldable pub needs_of : Actions → ℕ → ℕ
needs_of A v = choose (below v A.effects) (condition A v) (single (v - A.effects))

unfoldable pub adds_of : Actions → ℕ → ℕ
adds_of A v = choose (below v A.effects) (A.add v) (single (v - A.effects))

unfoldable pub deletes_of : Actions → ℕ → ℕ
deletes_of A v = choose (below v A.effects) (A.del v) 0

-- two effects of one action
unfoldable pub siblings : Actions → ℕ → ℕ → Bool
siblings A v w = below v A.effects and below w A.effects and same (A.owner v) (A.owner w)

-- v deletes something that w needs or adds
unfoldable pub clobbers : Actions → ℕ → ℕ → Bool
clobbers A v w = meets (deletes_of A v) (union (needs_of A w) (adds_of A w))

-- 'Two different vertices interfere when one deletes something the other needs or adds', but 'effects of one action do not interfere'
unfoldable pub interfere_of : Actions → ℕ → ℕ → Bool
interfere_of A v w = fails (siblings A v w) and (clobbers A v w or clobbers A w v)

-- 'V = E + P'
unfoldable pub domain : Actions → Domain
domain A = record {
  props = A.props;
  vertices = A.effects + A.props;
  needs = needs_of A;
  adds = adds_of A;
  interfere = interfere_of A;
}

-- two problems have the same actions: as many actions and effects, over as many propositions, and each with the same sets and owner
pub record SameActions (A A' : Actions) : Type 0 where
  pub props : A.props ≡ A'.props
  pub count : A.count ≡ A'.count
  pub pre : (a : ℕ) → a < A.count → A.pre a ≡ A'.pre a
  pub effects : A.effects ≡ A'.effects
  pub owner : (e : ℕ) → e < A.effects → A.owner e ≡ A'.owner e
  pub when : (e : ℕ) → e < A.effects → A.when e ≡ A'.when e
  pub add : (e : ℕ) → e < A.effects → A.add e ≡ A'.add e
  pub del : (e : ℕ) → e < A.effects → A.del e ≡ A'.del e

-- what holds of the actions of a file that is taken: their needs are propositions of the problem, and each effect has an action (causes 5 and 16)
pub record Sound (A : Actions) : Type 0 where
  pub pre : (a : ℕ) → a < A.count → A.pre a < 2 ^ A.props
  pub when : (e : ℕ) → e < A.effects → A.when e < 2 ^ A.props
  pub owner : (e : ℕ) → e < A.effects → A.owner e < A.count

-- version 1: each action owns the effect of its own number, and nothing else need hold
pub record Plain (A : Actions) : Type 0 where
  pub effects : A.effects ≡ A.count
  pub owner : (e : ℕ) → e < A.effects → A.owner e ≡ e
  pub when : (e : ℕ) → e < A.effects → A.when e ≡ 0
