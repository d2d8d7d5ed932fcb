-- The numbers of a list: the first that is unknown, and the greatest; what a set and a list mean that have passed.
-- Assumes nothing.
use Prim.Native.Nat.{ℕ, ◌+◌, ◌≤◌, ◌<◌, max}
use mathlib.Core.Path.{◌≡◌, refl, sym, ap, subst, ◌∙◌}
use mathlib.Core.Bool.{So}
use mathlib.Core.List.{List}
use mathlib.Core.Logic.{⊎_elim}
use native.Mathlib.Nat.{le_trans}
use native.Mathlib.Numerals.{add-one}
use native.Mathlib.Omega.{arith}
use lib.ListN.{length, get_or}
use Rattle.std.specs.Prelude.{Some, None, position, nat_le}
use Rattle.std.specs.List.{position_or_len}
use Rattle.std.proofs.lemmas.Bool.{leb-true, leb-false}
use Rattle.std.proofs.lemmas.Grind.{common_steps}
use Rattle.std.proofs.lemmas.List.Quantifiers.{position-Some}
use Rattle.std.proofs.lemmas.List.Sums.{fails_before_first}
use Rattle.rules.specs.Test.{fails, below}
use Rattle.rules.specs.Over.{first_below, greatest}
use Rattle.rules.proofs.Tests.{choose_held, choose_failed, holds_or, fails_at, below_of, below_at, below_not, below_fails, is_fails}
use Rattle.rules.proofs.Firsts.{first_unique, first_before, greatest_at}
use Rattle.graph.specs.Verdict.{accepted, refused}
use Rattle.run.specs.Run.{max_steps, first_unknown, numbers_rule, sequence_rule}
use Rattle.run.specs.Course.{Known, Some as SomeOf}
use Rattle.graph.specs.Checks.{set_rule}
use Rattle.graph.proofs.Verdicts.{passed_if_not}
use Rattle.graph.proofs.Ladder.{set_means}

-- ---- the numbers of a list, so far all below the number of actions

module _ (actions : ℕ) (list : List ℕ) (i : ℕ) (inside : i ≤ length list)
    (so_far : (k : ℕ) → k < i → get_or list k 0 < actions) where
  unknown_first : (i < length list → actions ≤ get_or list i 0) → i ≡ first_unknown actions list
  unfolding first_unknown
  unknown_first at =
      first_unique inside (λ k h t. fails_at t (below_of (so_far k h))) (λ l. is_fails (below_not (at l)))

  pub unknown_found : i < length list → actions ≤ get_or list i 0 → refused 11 i ≡ numbers_rule actions list
  unfolding numbers_rule
  unknown_found l h =
      let e = unknown_first (λ _. h) in
      ap (refused 11) e ∙ sym (choose_held _ (below_of (subst (λ (x : ℕ). x < length list) e l)))

  pub none_unknown : length list ≤ i → accepted tt ≡ numbers_rule actions list
  unfolding numbers_rule
  none_unknown h =
      let e = unknown_first (λ l. absurd (omega arith)) in
      sym (choose_failed _ _ (is_fails (below_not (subst (λ (x : ℕ). length list ≤ x) e h))))

-- where the first that is not is known, or that there is none
pub unknown_at : (actions : ℕ) (list : List ℕ) (i : ℕ) → position (λ a. nat_le actions a) list ≡ Some i → refused 11 i ≡ numbers_rule actions list
unknown_at actions list i e =
    let (inside, at, before) = position-Some (λ a. nat_le actions a) list i 0 e in
    unknown_found actions list i (omega arith) (λ k h. leb-false actions (get_or list k 0) (before k h)) inside (leb-true actions (get_or list i 0) at)

pub unknown_none : (actions : ℕ) (list : List ℕ) → position (λ a. nat_le actions a) list ≡ None → accepted tt ≡ numbers_rule actions list
unknown_none actions list e =
    let all : length list ≤ position_or_len (λ a. nat_le actions a) list = grind (arith, common_steps) in
    none_unknown actions list (length list) (omega arith)
    (λ k h. leb-false actions (get_or list k 0) (fails_before_first (λ a. nat_le actions a) list k 0 (omega arith))) (omega arith)

-- ---- the greatest of the numbers so far

pub record Most (list : List ℕ) (i most : ℕ) : Type 0 where
  pub within : i ≤ length list
  pub is : most ≡ greatest i (λ k. get_or list k 0)

pub most_none : {list : List ℕ} → Most list 0 0
unfolding greatest
most_none = record { within = omega arith; is = refl }

pub most_more : {list : List ℕ} {i most most' : ℕ} → Most list i most → i < length list → most' ≡ max most (get_or list i 0) → Most list (i + 1) most'
unfolding greatest
most_more {list} {i} m l e = record {
  within = omega arith;
  is = e ∙ ap (λ (x : ℕ). max x (get_or list i 0)) m.is ∙ ap (λ (x : ℕ). greatest x (λ k. get_or list k 0)) (sym (add-one i));
}

pub most_done : {list : List ℕ} {i most : ℕ} → Most list i most → length list ≤ i → most ≡ greatest (length list) (λ k. get_or list k 0)
most_done {list} {i} m h = let e : i ≡ length list = omega (arith, m.within) in m.is ∙ ap (λ (x : ℕ). greatest x (λ k. get_or list k 0)) e

-- where the greatest is known, all are
pub all_known : (actions : ℕ) (list : List ℕ) → greatest (length list) (λ k. get_or list k 0) < actions → accepted tt ≡ numbers_rule actions list
all_known actions list h =
    none_unknown actions list (length list) (omega arith) (λ k l. omega (arith, greatest_at (length list) (λ k. get_or list k 0) l)) (omega arith)

-- a set that passes
pub some_means : (n set : ℕ) → set_rule n set ≡ accepted tt → SomeOf n set
some_means n set e = let (some, inside) = set_means n set e in record { some = omega arith; inside = inside }

-- a sequence that passes is not too long, and each of its numbers is known
pub sequence_means : (actions : ℕ) (list : List ℕ) → sequence_rule actions list ≡ accepted tt → (length list ≤ max_steps) × Known actions list
unfolding sequence_rule numbers_rule first_unknown
sequence_means actions list e =
    let (short, e1) = passed_if_not (below max_steps (length list)) 11 max_steps _ tt e in
    let (none, e2) = passed_if_not _ 11 _ _ tt e1 in
    let all : length list ≤ first_below (length list) (λ i. fails (below (get_or list i 0) actions)) = below_fails none in
    (below_fails short, λ i h. known i (first_before (length list) _ i (le_trans h all)))
  where
    known : (i : ℕ) → (So (fails (below (get_or list i 0) actions)) → ⊥) → get_or list i 0 < actions
    known i known_not = ⊎_elim below_at (λ t. absurd (known_not t)) (holds_or (below (get_or list i 0) actions))
