-- A loop that tests each index and is left early: what holds at its head, where it starts, one turn more, and each way out.
-- Assumes nothing.
use mathlib.Core.Path.{◌≡◌, refl, sym, ap, subst, ◌∙◌}
use mathlib.Core.Bool.{Bool, true, false, So, false≢true}
use mathlib.Core.Logic.{by_cases}
use Prim.Native.Nat.{ℕ, ◌+◌, ◌-◌, ◌≤◌, ◌<◌}
use borrow.Author.Count.{below_more}
use native.Mathlib.Decide.{dec_le}
use native.Mathlib.Omega.{arith}
use Rattle.rules.specs.Test.{below}
use Rattle.rules.specs.Over.{all_below, first_below}
use Rattle.rules.proofs.Tests.{test_eq, below_of, below_not}
use Rattle.rules.proofs.Overs.{all_of_lem, all_at}
use Rattle.rules.proofs.Firsts.{first_at, first_to, first_unique}

-- how many words the code compares at once: at the front of two layers, and behind it
abbrev pub front_words : ℕ
front_words = 8

abbrev pub block_words : ℕ
block_words = 16

-- a test that is false does not hold
pub not_so : (b : Bool) → b ≡ false → So b → ⊥
not_so b e t = false≢true (rw e at t)

-- the test holds at each index below i, of n
pub record Held (f : ℕ → Bool) (n i : ℕ) : Type 0 where
  pub within : i ≤ n
  pub each : (k : ℕ) → k < i → So (f k)

pub held_none : {f : ℕ → Bool} {n : ℕ} → Held f n 0
held_none = record { within = omega arith; each = λ k h. absurd (omega arith) }

pub held_more : {f : ℕ → Bool} {n i : ℕ} → Held f n i → i < n → So (f i) → Held f n (i + 1)
held_more {f} {n} {i} h l t = record { within = omega arith; each = below_more _ _ h.each t }

-- so it holds at all n of them
pub held_done : {f : ℕ → Bool} {n i : ℕ} → Held f n i → n ≤ i → true ≡ all_below n f
held_done {f} {n} {i} h l = sym (all_of_lem (λ k m. h.each k (omega arith)))

-- one index at which it fails
pub held_not : {f : ℕ → Bool} {n i : ℕ} → Held f n i → i < n → f i ≡ false → false ≡ all_below n f
held_not {f} {n} {i} h l e = go (all_below n f) refl
  where
    go : (b : Bool) → all_below n f ≡ b → false ≡ b
    go true q = absurd (not_so (f i) e (all_at f q l))
    go false q = refl

-- a block of k at once
pub held_block : {f : ℕ → Bool} {n i : ℕ} (k : ℕ) → Held f n i → i + k ≤ n → So (all_below k (λ j. f (i + j))) → Held f n (i + k)
held_block {f} {n} {i} k h l t = record {
  within = l;
  each = λ j m. by_cases (dec_le i j)
      (λ g. let e : i + (j - i) ≡ j = omega arith in subst (λ (x : ℕ). So (f x)) e (all_at (λ j. f (i + j)) t (omega arith)))
      (λ g. h.each j (omega arith));
}

pub held_blocked : {f : ℕ → Bool} {n i : ℕ} (k : ℕ) → Held f n i → i + k ≤ n → all_below k (λ j. f (i + j)) ≡ false → false ≡ all_below n f
held_blocked {f} {n} {i} k h l e = go (all_below n f) refl
  where
    go : (b : Bool) → all_below n f ≡ b → false ≡ b
    go true q = absurd (not_so _ e (all_of_lem (λ j m. all_at f q (omega arith))))
    go false q = refl

-- what holds of the first i, as one test
pub held_so : {f : ℕ → Bool} {n i : ℕ} → Held f n i → So (all_below i f)
held_so {f} {n} {i} h = all_of_lem h.each

pub held_from : (f : ℕ → Bool) (n i : ℕ) → i ≤ n → So (all_below i f) → Held f n i
held_from f n i l t = record { within = l; each = (λ i. all_at f t) }

-- and the last k of them
pub held_rest : {f : ℕ → Bool} {n i : ℕ} (k : ℕ) {x : Bool} → Held f n i → i + k ≡ n → x ≡ all_below k (λ j. f (i + j)) → x ≡ all_below n f
held_rest {f} {n} {i} k h l e =
    e ∙ test_eq (λ t. all_of_lem (λ j m. (held_block k h (omega arith) t).each j (omega arith)))
    (λ t. all_of_lem (λ j m. all_at f t (omega arith)))

-- the test holds at no index below i, of n
pub record Sought (f : ℕ → Bool) (n i : ℕ) : Type 0 where
  pub within : i ≤ n
  pub before : (k : ℕ) → k < i → So (f k) → ⊥

pub sought_none : {f : ℕ → Bool} {n : ℕ} → Sought f n 0
sought_none = record { within = omega arith; before = λ k h t. omega arith }

pub sought_more : {f : ℕ → Bool} {n i : ℕ} → Sought f n i → i < n → f i ≡ false → Sought f n (i + 1)
sought_more {f} {n} {i} s l e = record { within = omega arith; before = below_more _ _ s.before (not_so (f i) e) }

-- where it holds, that is the first index
pub sought_found : {f : ℕ → Bool} {n i : ℕ} → Sought f n i → i < n → So (f i) → i ≡ first_below n f
sought_found {f} {n} {i} s l t = first_unique s.within s.before (λ h. t)

-- after all n of them there is none
pub sought_done : {f : ℕ → Bool} {n i : ℕ} → Sought f n i → n ≤ i → i ≡ first_below n f
sought_done {f} {n} {i} s l = first_unique s.within s.before (λ h. absurd (omega arith))

-- the same, said of n
pub sought_all : {f : ℕ → Bool} {n i : ℕ} → Sought f n i → n ≤ i → n ≡ first_below n f
sought_all {f} {n} {i} s l = let e : n ≡ i = omega (arith, s.within) in e ∙ sought_done s l

-- none up to i, none at i, and none from there on: the search goes on further up
pub sought_over : {f : ℕ → Bool} {n i j : ℕ} → Sought f n i → (So (f i) → ⊥) → i + 1 ≤ j → j ≤ n → ((k : ℕ) → i + 1 ≤ k → k < j → So (f k) → ⊥) → Sought f n j
sought_over {f} {n} {i} {j} s e h l over = record {
  within = l;
  before = λ k m t. by_cases (dec_le (i + 1) k) (λ g. over k g m t) (λ g. below_more _ _ s.before e k (omega arith) t);
}

-- the test holds at no index from i on, of n: the search from the top
pub record Cleared (f : ℕ → Bool) (n i : ℕ) : Type 0 where
  pub within : i ≤ n
  pub from : (k : ℕ) → i ≤ k → k < n → So (f k) → ⊥

pub cleared_none : {f : ℕ → Bool} {n : ℕ} → Cleared f n n
cleared_none = record { within = omega arith; from = λ k g h t. omega arith }

pub cleared_more : {f : ℕ → Bool} {n i : ℕ} → Cleared f n i → 0 < i → f (i - 1) ≡ false → Cleared f n (i - 1)
cleared_more {f} {n} {i} s l e = record {
  within = omega (arith, s.within);
  from = λ k g h t. by_cases (dec_le i k) (λ m. s.from k m h t)
      (λ m. let here : k ≡ i - 1 = omega arith in not_so (f k) (ap f here ∙ e) t);
}

-- where it holds, there is a first index
pub cleared_found : {f : ℕ → Bool} {n i : ℕ} → Cleared f n i → 0 < i → So (f (i - 1)) → true ≡ below (first_below n f) n
cleared_found {f} {n} {i} s l t = sym (below_of (omega (arith, s.within, first_to n f t)))

-- after all n of them there is none
pub cleared_done : {f : ℕ → Bool} {n i : ℕ} → Cleared f n i → i ≤ 0 → false ≡ below (first_below n f) n
cleared_done {f} {n} {i} s l =
    let no : first_below n f < n → ⊥ = λ h. s.from (first_below n f) (omega arith) h (first_at n f h) in
    sym (below_not (omega arith))
