-- Lists held against each other: as a whole, as `==` does, and word by word, as the rules do.
-- Assumes nothing.
use mathlib.Core.Path.{◌≡◌, sym, ap, ◌∙◌}
use mathlib.Core.List.{List}
use Prim.Native.Nat.{ℕ}
use lib.Dec.{eqb}
use lib.ListN.{length, get_or}
use lib.Pointwise.{pointwise, bytes_decides}
use lib.Seq.{ext_get_or}
use Rattle.rules.specs.Test.{same}
use Rattle.rules.specs.Over.{all_below}
use Rattle.rules.proofs.Tests.{test_eq, same_of, same_at}
use Rattle.rules.proofs.Overs.{all_of_lem, all_at}

pub equal_words : (n : ℕ) (xs ys : List ℕ) → length xs ≡ n → length ys ≡ n
    → pointwise eqb xs ys ≡ all_below n (λ i. same (get_or xs i 0) (get_or ys i 0))
equal_words n xs ys e f = test_eq
    (λ t. all_of_lem (λ i h. same_of (ap (λ (l : List ℕ). get_or l i 0) ((bytes_decides xs ys).0 t))))
    (λ t. (bytes_decides xs ys).1 (ext_get_or 0 xs ys (e ∙ sym f) (λ i h. same_at (all_at _ t (rw e at h)))))
