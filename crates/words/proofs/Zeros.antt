-- An array of zeros, lent in part.
-- Assumes nothing.
use mathlib.Core.Path.{◌≡◌, refl, sym, ap, ◌∙◌}
use mathlib.Core.List.{List, ◌∷◌}
use Prim.Native.Nat.{ℕ, zero, suc, ◌≤◌, ◌<◌}
use native.Mathlib.Nat.{not-suc-le-zero, le_of_suc-le-suc}
use native.Mathlib.Omega.{arith}
use lib.ListN.{length, get_or, take, replicate}
use lib.Seq.{ext_get_or, get_or-take, length-take-le}
use Rattle.rules.specs.Lists.{list_over}
use Rattle.rules.proofs.Layers.{length_list_over, get_d_list_over}

-- the front of a list of zeros
pub zeros : (n m : ℕ) → n ≤ m → take {A = ℕ} n (replicate {A = ℕ} m 0) ≡ list_over n (λ q. 0)
zeros n m h = go n m h ∙ ext_get_or 0 _ _ (long n ∙ sym (length_list_over n (λ q. 0))) (λ i l. none n i ∙ sym (get_d_list_over (λ q. 0) (omega
    (arith, long n))))
  where
    go : (n m : ℕ) → n ≤ m → take {A = ℕ} n (replicate {A = ℕ} m 0) ≡ replicate n 0
    go zero m l = refl
    go (suc n) zero l = absurd (not-suc-le-zero l)
    go (suc n) (suc m) l = ap (λ (k : List ℕ). 0 ∷ k) (go n m (le_of_suc-le-suc l))

    long : (n : ℕ) → length (replicate {A = ℕ} n 0) ≡ n
    long zero = refl
    long (suc n) = ap suc (long n)

    none : (n i : ℕ) → get_or (replicate {A = ℕ} n 0) i 0 ≡ 0
    none zero i = refl
    none (suc n) zero = refl
    none (suc n) (suc i) = none n i

-- the front of a row of empty words
pub zeros_front : (n m : ℕ) (row : List ℕ) → row ≡ list_over m (λ q. 0) → n ≤ m → take n row ≡ list_over n (λ q. 0)
zeros_front n m row e h =
    ext_get_or 0 (take n row) _ (length-take-le n row (omega (arith, long)) ∙ sym (length_list_over n (λ q. 0))) (λ i l.
    let k : i < n = omega (arith, length-take-le n row (omega (arith, long))) in
    get_or-take n row i 0 k ∙ ap (λ (x : List ℕ). get_or x i 0) e ∙ get_d_list_over (λ q. 0) (omega arith) ∙ sym (get_d_list_over (λ q. 0) k))
  where
    long : length row ≡ m
    long = ap length e ∙ length_list_over m (λ q. 0)
