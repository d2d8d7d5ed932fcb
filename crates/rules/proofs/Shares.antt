-- Enough of the weight: the weight of a set of states, when it is enough, and which states hold a goal in a layer.
-- Assumes nothing.
use mathlib.Core.Path.{◌≡◌, refl, sym, ap, subst, ◌∙◌}
use mathlib.Core.Bool.{Bool, So}
use mathlib.Core.Logic.{⊎_elim}
use mathlib.Core.List.{List}
use Prim.Native.Nat.{ℕ, suc, ◌*◌, ◌^◌, ◌≤◌, ◌<◌}
use native.Mathlib.Nat.{le_refl, mul_assoc, mul_right_comm, mul-le-mul_left, mul-le-mul_right, le_of_mul-le-mul_right}
use native.Mathlib.Omega.{arith}
use lib.ListN.{length, get_or}
use Rattle.rules.specs.Test.{◌implies◌, same}
use Rattle.rules.specs.Word.{bit, first, within}
use Rattle.rules.specs.Over.{keep, all_below}
use Rattle.rules.specs.Domain.{Domain, shape_of}
use Rattle.rules.specs.declared.Shape.{Shape}
use Rattle.rules.specs.Layer.{pair_at, label_in, mutex_in, props_in}
use Rattle.rules.specs.Agreement.{Agrees}
use Rattle.rules.specs.Own.{Own, mutex, admits, own_props}
use Rattle.rules.specs.Level.{goal_met, first_met, level_by, level_of}
use Rattle.rules.specs.Share.{Share, weight_of, total, holders, enough, first_enough, share_level}
use Rattle.rules.proofs.Tests.{fails_of, holds_or, below_at, below_fails, same_of, same_at, test_eq}
use Rattle.rules.proofs.Words.{bit_zero, first_lt, within_of, within_at}
use Rattle.rules.proofs.Overs.{all_of_lem, all_at, all_eq, keep_held, keep_failed, keep_le, sum_le, sum_tight, sum_at, sum_most}
use Rattle.rules.proofs.Firsts.{first_eq, first_later}
use Rattle.rules.proofs.Layers.{paired_map}
use Rattle.rules.proofs.Agree.{label_agrees, in_first}
use Rattle.rules.proofs.Layouts.{Built, props_in_agree}
use Rattle.rules.proofs.NoHighBits.{vertex_small}
use Rattle.rules.proofs.Mets.{met_layer_lem}
use Rattle.rules.proofs.Scans.{sum_eq}

-- ---- weights

-- what is kept by a test is kept by one that it gives
keep_mono : {a b : Bool} (w : ℕ) → (So a → So b) → keep a w ≤ keep b w
keep_mono {a} {b} w h = keep_le (λ t. omega (arith, keep_held w (h t)))

module _ (weights : List ℕ) where
  -- more states weigh no less
  pub weight_mono : (a b : ℕ) → So (within a b) → weight_of weights a ≤ weight_of weights b
  unfolding weight_of
  weight_mono a b h = sum_le (length weights) (λ s l. keep_mono (get_or weights s 0) (within_at a b s h))

  -- none weigh more than all
  pub weight_le : (set : ℕ) → weight_of weights set ≤ total weights
  unfolding weight_of total
  weight_le set = sum_le (length weights) (λ s l. keep_le (λ t. le_refl (get_or weights s 0)))

  pub weight_all : weight_of weights (first (length weights)) ≡ total weights
  unfolding weight_of total
  weight_all = sum_eq (length weights) _ _ (λ s l. keep_held (get_or weights s 0) (in_first l))

  -- the total is 0 exactly when each weight is
  pub total_zero_at : total weights ≡ 0 → {s : ℕ} → s < length weights → get_or weights s 0 ≡ 0
  unfolding total
  total_zero_at e l = omega (arith, sum_at (length weights) (λ s. get_or weights s 0) l)

  pub total_zero_of : ((s : ℕ) → s < length weights → get_or weights s 0 ≡ 0) → total weights ≡ 0
  unfolding total
  total_zero_of h = omega (arith, sum_most (length weights) {f = λ s. get_or weights s 0} {m = 0} (λ s l. omega (arith, h s l)))

  pub total_zero : same (total weights) 0 ≡ all_below (length weights) (λ s. same (get_or weights s 0) 0)
  total_zero =
      test_eq (λ t. all_of_lem (λ s l. same_of (total_zero_at (same_at t) l)))
      (λ t. same_of (total_zero_of (λ s l. same_at (all_at _ t l))))

  -- few small weights make a small total
  pub total_fits : {n m : ℕ} → length weights ≤ n → ((s : ℕ) → s < length weights → get_or weights s 0 ≤ m) → total weights ≤ n * m
  unfolding total
  total_fits {n} {m} few small = omega (arith, sum_most (length weights) small, mul-le-mul_right m few)

-- ---- enough

module _ (share : Share) where
  abbrev weighed : ℕ → ℕ
  weighed set = weight_of share.weights set * share.denominator

  abbrev all : ℕ
  all = total share.weights

  pub enough_of : (set : ℕ) → all * share.numerator ≤ weighed set → So (enough share set)
  unfolding enough
  enough_of set h = fails_of (λ t. omega (arith, below_at t))

  pub enough_at : (set : ℕ) → So (enough share set) → all * share.numerator ≤ weighed set
  unfolding enough
  enough_at set t = below_fails t

  -- more states are enough where fewer are
  pub enough_mono : (a b : ℕ) → So (within a b) → So (enough share a) → So (enough share b)
  enough_mono a b h t =
      enough_of b (omega (arith, enough_at a t, mul-le-mul_right share.denominator (weight_mono share.weights a b h)))

  -- the whole of the weight, where each state has some: enough exactly when every state is there
  module _ (whole : share.numerator ≡ share.denominator) (some : share.denominator ≡ 0 → ⊥)
      (each : (s : ℕ) → s < length share.weights → get_or share.weights s 0 ≡ 0 → ⊥) where
    every_weighs : (set : ℕ) → ((s : ℕ) → s < length share.weights → So (bit s set)) → all ≤ weight_of share.weights set
    every_weighs set h = omega (
      arith,
      weight_all share.weights,
      weight_mono share.weights (first (length share.weights)) set (within_of set (first_lt (length share.weights)) (λ s l t. h s l)),
    )

    weighs_every : (set : ℕ) → all ≤ weight_of share.weights set → {s : ℕ} → s < length share.weights → So (bit s set)
    unfolding total weight_of
    weighs_every set h {s} l = ⊎_elim
        (λ t. t)
        (λ t. absurd (each s l (omega (
          arith,
          keep_failed (bit s set) (get_or share.weights s 0) t,
          sum_tight (length share.weights) (λ i k. keep_le (λ t. le_refl (get_or share.weights i 0))) h l,
        ))))
        (holds_or (bit s set))

    pub enough_whole : (set : ℕ) → enough share set ≡ all_below (length share.weights) (λ s. bit s set)
    enough_whole set =
        test_eq
        (λ t. all_of_lem (λ s.
        weighs_every set (le_of_mul-le-mul_right {k = share.denominator} (subst (λ (x : ℕ). all * x ≤ weighed set) whole (enough_at set t)) (omega arith))))
        (λ t. enough_of set (subst (λ (x : ℕ). all * x ≤ weighed set) (sym whole) (mul-le-mul_right _ (every_weighs set (λ s. all_at _ t)))))

-- what is enough for the larger of two shares of the same weights is enough for the other
pub enough_less : (share share' : Share) → share.weights ≡ share'.weights → (share'.denominator ≡ 0 → ⊥)
    → share.numerator * share'.denominator ≤ share'.numerator * share.denominator → (set : ℕ) → So (enough share' set) → So (enough share set)
enough_less share share' alike some less set t = enough_of share set (le_of_mul-le-mul_right {k = share'.denominator} crossed (omega arith))
  where
    sum : ℕ
    sum = total share.weights

    mine : ℕ
    mine = weight_of share.weights set

    asked' : sum * share'.numerator ≤ mine * share'.denominator
    asked' = rw alike (enough_at share' set t)

    crossed : sum * share.numerator * share'.denominator ≤ mine * share.denominator * share'.denominator
    crossed = omega (
      arith,
      mul_assoc sum share.numerator share'.denominator,
      mul-le-mul_left sum less,
      mul_assoc sum share'.numerator share.denominator,
      mul-le-mul_right share.denominator asked',
      mul_right_comm mine share'.denominator share.denominator,
    )

-- ---- the states that hold a goal

-- what any layer of m propositions says of state s
abbrev told : ℕ → ℕ → List ℕ → Own
told s m l = record { has = λ p. bit s (label_in l p); pair = λ p q. bit s (get_or l (pair_at m p q) 0) }

told_agrees : (s m : ℕ) (l : List ℕ) → Agrees s m l (told s m l)
unfolding mutex_in mutex
told_agrees s m l = record { label = λ i h. refl; pair = λ i j h k. paired_map (bit s) h k (bit_zero s) (λ a b x y. refl) }

module _ (m n : ℕ) (l : List ℕ) (goal : ℕ) where
  -- none but the n states
  pub holders_few : holders m (first n) l goal < 2 ^ n
  holders_few = vertex_small m n l goal

  -- each of them holds the goal exactly when it is met for all
  pub holders_all : goal_met m l (first n) goal ≡ all_below n (λ s. bit s (holders m (first n) l goal))
  unfolding ◌implies◌
  holders_all =
      met_layer_lem (λ s h. told_agrees s m l) goal (first_lt n)
      ∙ all_eq (λ s h. ap (λ (b : Bool). b implies admits m (told s m l) goal) (in_first h)
      ∙ sym (label_agrees (first n) (in_first h) (told_agrees s m l) goal))

-- in layer t of built memory they are those whose own graph admits the goal there
pub holders_agree : (D : Domain) (n : ℕ) (start : ℕ → ℕ) (k : ℕ) (words : List ℕ) → Built D n start k words → (goal : ℕ) {t s : ℕ} → t ≤ k → s < n
    → bit s (holders D.props (first n) (props_in (shape_of D) words t) goal) ≡ admits D.props (own_props D (start s) t) goal
holders_agree D n start k words built goal h l = label_agrees (first n) (in_first l) (props_in_agree D n start k words built l h) goal

-- ---- the level

module _ (S : Shape) (k goal : ℕ) (words : List ℕ) where
  -- the whole of the weight, where each state has some: the level of all states
  pub whole_level : (share : Share) → share.numerator ≡ share.denominator → (share.denominator ≡ 0 → ⊥)
      → ((s : ℕ) → s < length share.weights → get_or share.weights s 0 ≡ 0 → ⊥)
      → share_level S k share goal words ≡ level_of S k (first (length share.weights)) goal words
  unfolding share_level level_of first_enough first_met
  whole_level share whole some each =
      ap (level_by S k words) (first_eq (suc k) (λ t h.
      enough_whole share whole some each _ ∙ sym (holders_all S.props (length share.weights) (props_in S words t) goal)))

  -- a larger share of the same weights is there first no earlier
  pub enough_later : (share share' : Share) → share.weights ≡ share'.weights → (share'.denominator ≡ 0 → ⊥)
      → share.numerator * share'.denominator ≤ share'.numerator * share.denominator
      → first_enough S k share goal words ≤ first_enough S k share' goal words
  unfolding first_enough
  enough_later share share' alike some less = first_later (suc k) (λ t e.
      enough_less share share' alike some less _
      (subst (λ (w : List ℕ). So (enough share' (holders S.props (first (length w)) (props_in S words t) goal))) (sym alike) e))
