-- Weights summed one after the other, and cause 18 by their total.
-- Assumes nothing.
use mathlib.Core.Path.{◌≡◌, refl, sym, ap, subst, ◌∙◌}
use mathlib.Core.Bool.{Bool, true, false, So}
use mathlib.Core.Logic.{⊎_elim, by_cases}
use mathlib.Core.List.{List}
use Prim.Native.Nat.{ℕ, zero, suc, ◌+◌, ◌*◌, ◌^◌, ◌≤◌, ◌<◌}
use native.Mathlib.Decide.{dec_le}
use native.Mathlib.Nat.{zero-add}
use native.Mathlib.Numerals.{add-one}
use native.Mathlib.Omega.{arith}
use lib.Count.{count_trailing_zeros}
use lib.ListN.{length, get_or}
use Rattle.rules.specs.Test.{◌and◌, ◌or◌, fails, same, below, choose}
use Rattle.rules.specs.Word.{bit, without, single, within}
use Rattle.rules.specs.Over.{keep, sum_over}
use Rattle.rules.specs.Share.{Share, share_of, total, weight_of}
use Rattle.rules.proofs.Tests.{and_of, and_left, and_right, and_true, holds_or, test_eq, fails_of, fails_at, same_of}
use Rattle.rules.proofs.Tests.{same_at, same_not, below_of, below_at, below_not, or_left}
use Rattle.rules.proofs.Words.{bit_without, bit_single, no_bit_zero, within_at, without_lt}
use Rattle.rules.proofs.Overs.{keep_held, keep_failed, keep_le, sum_most}
use Rattle.rules.proofs.Scans.{sum_eq, sum_add}
use Rattle.rules.proofs.Shares.{weight_le, total_fits, total_zero}
use Rattle.words.specs.Width.{word_width, state_width}
use Rattle.words.proofs.MemberLoops.{lowest_in, lowest_lt}
use Rattle.graph.specs.Verdict.{Verdict, accepted, refused, and_then}
use Rattle.graph.specs.Checks.{goal_rule}
use Rattle.graph.specs.declared.format.Counts.{Counts}
use Rattle.graph.proofs.Verdicts.{passed_if, passed_if_not, passed_then}
use Rattle.share.specs.Rule.{all_zero, weights_rule, wanted_rule}
use Rattle.share.specs.Sums.{max_total, total_for, rule_by, Weighed}

-- ---- bounds

-- no weight of 16 bits is above this
abbrev pub max_weight : ℕ
max_weight = 65535

-- what 64 weights of 16 bits come to
pub total_small : (weights : List ℕ) → length weights ≤ state_width → ((s : ℕ) → get_or weights s 0 ≤ max_weight) → total weights ≤ max_total
total_small weights few each = total_fits weights few (λ s h. each s)

-- ---- one weight after the other

pub record Added (weights : List ℕ) (s sum : ℕ) : Type 0 where
  pub within : s ≤ length weights
  pub is : sum ≡ sum_over s (λ i. get_or weights i 0)
  pub small : sum ≤ s * max_weight

pub added_none : (weights : List ℕ) → Added weights 0 0
unfolding sum_over
added_none weights = record { within = omega arith; is = refl; small = omega arith }

pub added_more : {weights : List ℕ} {s sum : ℕ} → Added weights s sum → s < length weights → get_or weights s 0 ≤ max_weight
    → Added weights (s + 1) (sum + get_or weights s 0)
unfolding sum_over
added_more {weights} {s} {sum} a h small = record {
  within = omega arith;
  is = ap (λ (x : ℕ). x + get_or weights s 0) a.is ∙ ap (λ (n : ℕ). sum_over n (λ i. get_or weights i 0)) (sym (add-one s));
  small = omega (arith, a.small);
}

pub added_all : {weights : List ℕ} {s sum : ℕ} → Added weights s sum → length weights ≤ s → length weights ≤ state_width
    → (sum ≡ total weights) × (sum ≤ max_total)
unfolding total
added_all {weights} {s} {sum} a h few =
    let e : s ≡ length weights = omega (arith, a.within) in
    (a.is ∙ ap (λ (n : ℕ). sum_over n (λ i. get_or weights i 0)) e, omega (arith, a.small))

-- ---- one member after the other

-- two sums that differ at one index
sum_without : (n q a : ℕ) (f g : ℕ → ℕ) → ((i : ℕ) → i < n → (i ≡ q → ⊥) → f i ≡ g i) → f q ≡ a → g q ≡ 0 → q < n → sum_over n f ≡ a + sum_over n g
unfolding sum_over
sum_without zero q a f g h x y l = absurd (omega arith)
sum_without (suc n) q a f g h x y l = by_cases (dec_le n q)
    (λ k.
    let e : n ≡ q = omega arith in
    omega (arith, sum_eq n f g (λ i j. h i (omega arith) (λ r. omega arith)), ap f e ∙ x, ap g e ∙ y))
    (λ k. omega (arith, sum_without n q a f g (λ i j. h i (omega arith)) x y (omega arith), h n (omega arith) (λ r. omega arith)))

module _ (weights : List ℕ) where
  -- a member and the others
  weight_pick : (set q : ℕ) → q < length weights → So (bit q set) → weight_of weights set ≡ get_or weights q 0 + weight_of weights (without set (single q))
  unfolding weight_of
  weight_pick set q l t = sum_without (length weights) q (get_or weights q 0)
      (λ s. keep (bit s set) (get_or weights s 0)) (λ s. keep (bit s (without set (single q))) (get_or weights s 0))
      (λ i h n. ap (λ (b : Bool). keep b (get_or weights i 0)) (stays i n)) (keep_held (get_or weights q 0) t)
      (keep_failed (bit q (without set (single q))) (get_or weights q 0) (fails_of gone)) l
    where
      stays : (i : ℕ) → (i ≡ q → ⊥) → bit i set ≡ bit i (without set (single q))
      stays i n = sym (bit_without i set (single q) ∙ test_eq (λ u. and_left _ u) (λ u. and_of u (ap fails (bit_single i q) ∙ fails_of (λ e. n (same_at e)))))

      gone : So (bit q (without set (single q))) → ⊥
      gone u = fails_at (and_right _ (sym (bit_without q set (single q)) ∙ u)) (bit_single q q ∙ same_of refl)

  pub weight_none : weight_of weights 0 ≡ 0
  unfolding weight_of
  weight_none = omega (arith, sum_most (length weights) {f = λ s. keep (bit s 0) (get_or weights s 0)} {m = 0} (λ s l. keep_le (λ t. absurd (no_bit_zero s t))))

  -- some states of a set and its others
  pub weight_parts : (known set : ℕ) → So (within known set) → weight_of weights known + weight_of weights (without set known) ≡ weight_of weights set
  unfolding weight_of
  weight_parts known set h =
      sum_add (length weights) _ _
      ∙ sum_eq (length weights) _ _ (λ s l.
      ap (λ (b : Bool). keep (bit s known) (get_or weights s 0) + keep b (get_or weights s 0)) (bit_without s set known)
      ∙ both (get_or weights s 0) (bit s known) (bit s set) (within_at known set s h))
    where
      both : (w : ℕ) (a b : Bool) → (So a → So b) → keep a w + keep (b and fails a) w ≡ keep b w
      both w a b f = ⊎_elim
          (λ t. omega (arith, keep_held w t, keep_held w (f t), keep_failed (b and fails a) w (fails_of (λ u. fails_at (and_right _ u) t))))
          (λ t. omega (arith, keep_failed a w t, ap (λ (x : Bool). keep (b and x) w) t, ap (λ (x : Bool). keep x w) (and_true {a = b})))
          (holds_or a)

-- what the members taken so far weigh, with those that are left
pub record Weighing (weights : List ℕ) (set left sum : ℕ) : Type 0 where
  pub inside : left < 2 ^ length weights
  pub is : sum + weight_of weights left ≡ weight_of weights set

pub weighing_none : (weights : List ℕ) {set : ℕ} → set < 2 ^ length weights → Weighing weights set set 0
weighing_none weights {set} h = record { inside = h; is = zero-add (weight_of weights set) }

module _ {weights : List ℕ} {set left sum : ℕ} (w : Weighing weights set left sum) (few : length weights ≤ word_width) (some : 0 < left) where
  picked : weight_of weights left ≡ get_or weights (count_trailing_zeros word_width left) 0 + weight_of weights (without left (single (count_trailing_zeros word_width left)))
  picked = weight_pick weights left _ (lowest_lt (length weights) left few w.inside some) (lowest_in (length weights) left few w.inside some)

  pub weighing_lt : {q : ℕ} → q ≡ count_trailing_zeros word_width left → q < length weights
  weighing_lt e = omega (arith, lowest_lt (length weights) left few w.inside some)

  -- with the next one it is no more than all weigh
  pub weighing_fits : {q : ℕ} → q ≡ count_trailing_zeros word_width left → sum + get_or weights q 0 ≤ total weights
  weighing_fits {q} e = omega (arith, w.is, picked, ap (λ (i : ℕ). get_or weights i 0) e, weight_le weights set)

  pub weighing_more : {q left' : ℕ} → q ≡ count_trailing_zeros word_width left → left' ≡ without left (single (count_trailing_zeros word_width left))
      → Weighing weights set left' (sum + get_or weights q 0)
  weighing_more {q} {left'} e l = record {
    inside = subst (λ (x : ℕ). x < 2 ^ length weights) (sym l) (without_lt (length weights) _ w.inside);
    is = omega (arith, w.is, picked, ap (λ (i : ℕ). get_or weights i 0) e, ap (weight_of weights) l);
  }

pub weighing_all : {weights : List ℕ} {set left sum : ℕ} → Weighing weights set left sum → left ≤ 0 → sum ≡ weight_of weights set
weighing_all {weights} {set} {left} {sum} w h =
    let e : left ≡ 0 = omega arith in
    omega (arith, w.is, ap (weight_of weights) e, weight_none weights)

-- ---- cause 18

module _ (sum numerator denominator : ℕ) where
  pub no_total : sum ≡ 0 → refused 18 0 ≡ rule_by sum numerator denominator
  unfolding rule_by choose ◌or◌
  no_total h = simp (same_of h)

  module _ (some : sum ≡ 0 → ⊥) where
    pub no_denominator : denominator ≡ 0 → refused 18 0 ≡ rule_by sum numerator denominator
    unfolding rule_by choose ◌or◌
    no_denominator h = simp (same_not some, same_of h)

    module _ (parts : denominator ≡ 0 → ⊥) where
      pub above_one : denominator < numerator → refused 18 0 ≡ rule_by sum numerator denominator
      unfolding rule_by choose ◌or◌
      above_one h = simp (same_not some, same_not parts, below_of h)

      pub a_share : numerator ≤ denominator → accepted tt ≡ rule_by sum numerator denominator
      unfolding rule_by choose ◌or◌
      a_share h = simp (same_not some, same_not parts, below_not h)

-- the total of another number of weights is none, and so is that of weights that are all zero
rule_for : (weights : List ℕ) (rest long : Bool) (x y : Verdict (Unit {0})) → choose (same (choose long (total weights) 0) 0 or rest) x y
    ≡ choose (fails long or all_zero weights or rest) x y
unfolding choose fails ◌or◌ same all_zero
rule_for weights rest true x y = ap (λ (z : Bool). choose (z or rest) x y) (total_zero weights)
rule_for weights rest false x y = refl

pub rule_by_lem : (states : ℕ) (weights : List ℕ) (numerator denominator : ℕ)
    → rule_by (total_for states weights) numerator denominator ≡ weights_rule states (share_of weights numerator denominator)
unfolding rule_by total_for weights_rule
rule_by_lem states weights numerator denominator =
    rule_for weights (same denominator 0 or below denominator numerator) (same (length weights) states) _ _

-- causes 8 and 18 by the total that was found
pub wanted_is : (c : Counts) (goal : ℕ) (weights : List ℕ) (numerator denominator : ℕ) {sum : ℕ} → sum ≡ total_for c.states weights
    → and_then (goal_rule c.props goal) (λ _. rule_by sum numerator denominator) ≡ wanted_rule c goal (share_of weights numerator denominator)
unfolding wanted_rule
wanted_is c goal weights numerator denominator e =
    ap (λ (v : Verdict (Unit {0})). and_then (goal_rule c.props goal) (λ _. v))
    (ap (λ (x : ℕ). rule_by x numerator denominator) e ∙ rule_by_lem c.states weights numerator denominator)

-- once they are passed the goal is over the propositions, and there is one weight for each state
module _ (c : Counts) (goal : ℕ) (share : Share) (passed : wanted_rule c goal share ≡ accepted tt) where
  pub goal_passed : goal < 2 ^ c.props
  unfolding wanted_rule goal_rule
  goal_passed = let (u, e, r) = passed_then _ _ _ passed in below_at (passed_if _ _ _ _ _ e).0

  pub weights_passed : length share.weights ≡ c.states
  unfolding wanted_rule weights_rule
  weights_passed =
      let (u, e, r) = passed_then _ _ _ passed in
      let (f, q) = passed_if_not _ _ _ _ _ r in
      ⊎_elim same_at (λ t. absurd (fails_at f (or_left _ t))) (holds_or (same (length share.weights) c.states))

  pub weighed_of : c.states ≤ state_width → {sum : ℕ} → (sum ≡ total_for c.states share.weights) → sum ≤ max_total → Weighed share.weights sum
  unfolding total_for choose
  weighed_of few e small = record { few = omega (arith, weights_passed); is = e ∙ simp (same_of weights_passed); small = small }
