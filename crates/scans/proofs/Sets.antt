-- Words as sets: one taken out, what a set joins, and what is taken away.
-- Assumes nothing.
use mathlib.Core.Path.{◌≡◌, refl, sym, ap, subst, ◌∙◌}
use mathlib.Core.Bool.{Bool, true, false, So}
use mathlib.Core.Logic.{⊎_elim}
use Prim.Native.Nat.{ℕ, ◌+◌, ◌-◌, ◌/◌, ◌%◌, ◌^◌, ◌<◌}
use native.Mathlib.Nat.{mod-lt, zero-lt-suc}
use native.Mathlib.Omega.{arith}
use lib.Count.{ones}
use Rattle.rules.specs.Test.{◌and◌, fails}
use Rattle.rules.specs.Word.{bit, common, union, without, single}
use Rattle.rules.specs.Over.{join_of}
use Rattle.rules.proofs.Tests.{and_of, and_left, and_right, or_left, or_right, fails_of, fails_at, holds_or, test_eq, same_of, same_at}
use Rattle.rules.proofs.Words.{bit_common, bit_union, bit_without, single_only, no_bit_zero, ext_all}
use Rattle.rules.proofs.Overs.{any_at, any_of}
use Rattle.rules.proofs.Members.{bit_join_of}
use Rattle.rules.proofs.Scans.{ones_out}

-- ---- a set without v

pub others_in : (set v i : ℕ) → So (bit i (without set (single v))) → So (bit i set)
others_in set v i t = and_left _ (sym (bit_without i set (single v)) ∙ t)

pub others_have : (set v i : ℕ) → (i ≡ v → ⊥) → So (bit i set) → So (bit i (without set (single v)))
others_have set v i d t = bit_without i set (single v) ∙ and_of t (fails_of (λ u. d (single_only refl u)))

-- v is not there: nothing changes
absent_stays : (set v : ℕ) → So (fails (bit v set)) → without set (single v) ≡ set
absent_stays set v h =
    ext_all (λ i. test_eq (others_in set v i) (λ t. others_have set v i (λ e. fails_at h (subst (λ (x : ℕ). So (bit x set)) e t)) t))

-- how many others there are, by the digit of v
pub others_count : (n set size v : ℕ) → set < 2 ^ n → size ≡ ones set + 1 → size - set / 2 ^ v % 2 ≡ ones (without set (single v)) + 1
unfolding bit
others_count n set size v h e = ⊎_elim
    (λ t. let d : set / 2 ^ v % 2 ≡ 1 = same_at t in omega (arith, ones_out n set v h t))
    (λ t. let d : set / 2 ^ v % 2 ≡ 1 → ⊥ = λ q. fails_at t (same_of q) in
    omega (arith, ap ones (absent_stays set v t), mod-lt (set / 2 ^ v) (zero-lt-suc 1)))
    (holds_or (bit v set))

-- ---- what is joined over the members of a set

-- a member that has it
pub record Has (s n set : ℕ) (f : ℕ → ℕ) : Type 0 where
  pub i : ℕ
  pub below : i < n
  pub among : So (bit i set)
  pub holds : So (bit s (f i))

pub join_at : {s n set : ℕ} (f : ℕ → ℕ) → So (bit s (join_of n set f)) → Has s n set f
join_at {s} {n} {set} f t =
    let (i, l, u) = any_at (sym (bit_join_of s n set f) ∙ t) in record { i = i; below = l; among = and_left _ u; holds = and_right _ u }

pub join_of_lem : (s : ℕ) {n : ℕ} (set : ℕ) {i : ℕ} (f : ℕ → ℕ) → i < n → So (bit i set) → So (bit s (f i)) → So (bit s (join_of n set f))
join_of_lem s {n} set f l t u = bit_join_of s n set f ∙ any_of _ l (and_of t u)

pub union_left : (s a b : ℕ) → So (bit s a) → So (bit s (union a b))
union_left s a b t = bit_union s a b ∙ or_left _ t

pub union_right : (s a b : ℕ) → So (bit s b) → So (bit s (union a b))
union_right s a b t = bit_union s a b ∙ or_right _ t

-- ---- what is taken away

-- the same of what is there
pub less_same : (left a b : ℕ) → ((s : ℕ) → So (bit s left) → bit s a ≡ bit s b) → without left a ≡ without left b
unfolding ◌and◌
less_same left a b e = ext_all (λ s. bit_without s left a ∙ go (bit s left) _ _ (e s) ∙ sym (bit_without s left b))
  where
    go : (x y z : Bool) → (So x → y ≡ z) → (x and fails y) ≡ (x and fails z)
    go true y z h = ap fails (h refl)
    go false y z h = refl

-- what leaves nothing leaves nothing where more is taken
pub less_more : (left a b : ℕ) → ((s : ℕ) → So (bit s a) → So (bit s b)) → without left a ≡ 0 → without left b ≡ 0
less_more left a b part e = ext_all (λ s. test_eq
    (λ t. let u = sym (bit_without s left b) ∙ t in
    sym (ap (bit s) e) ∙ bit_without s left a ∙ and_of (and_left _ u) (fails_of (λ v. fails_at (and_right _ u) (part s v))))
    (λ t. absurd (no_bit_zero s t)))

-- what has nothing in common with a word has nothing in common with it when it has less
pub apart_part : (left both w : ℕ) → ((s : ℕ) → So (bit s left) → So (bit s both)) → common both w ≡ 0 → common left w ≡ 0
apart_part left both w part e = ext_all (λ s. test_eq
    (λ t. let u = sym (bit_common s left w) ∙ t in
    sym (ap (bit s) e) ∙ bit_common s both w ∙ and_of (part s (and_left _ u)) (and_right _ u))
    (λ t. absurd (no_bit_zero s t)))

pub apart_at : (left w s : ℕ) → common left w ≡ 0 → So (bit s left) → So (bit s w) → ⊥
apart_at left w s e t u = no_bit_zero s (sym (ap (bit s) e) ∙ bit_common s left w ∙ and_of t u)

pub less_part : (left w s : ℕ) → So (bit s (without left w)) → So (bit s left)
less_part left w s t = and_left _ (sym (bit_without s left w) ∙ t)

-- what was taken away is not left
pub less_apart : (both w x : ℕ) → ((s : ℕ) → So (bit s x) → So (bit s w)) → common (without both w) x ≡ 0
less_apart both w x part = ext_all (λ s. test_eq
    (λ t. let u = sym (bit_common s (without both w) x) ∙ t in
    absurd (fails_at (and_right _ (sym (bit_without s both w) ∙ and_left _ u)) (part s (and_right _ u))))
    (λ t. absurd (no_bit_zero s t)))
