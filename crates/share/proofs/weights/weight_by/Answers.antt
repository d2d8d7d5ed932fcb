-- In either case the states whose weight is known lie within the set.
use mathlib.Core.Path.{◌≡◌, sym, ap, ap₂, subst, ◌∙◌}
use mathlib.Core.Bool.{So}
use Prim.Native.Nat.{ℕ, ◌+◌, ◌^◌, ◌≤◌, ◌<◌}
use native.Mathlib.Omega.{arith}
use lib.ListN.{length}
use lib.Pow.{pow_pos}
use Rattle.rules.specs.Word.{within}
use Rattle.rules.specs.Share as S
use Rattle.rules.proofs.Words.{no_bit_zero, within_of, without_lt}
use Rattle.rules.proofs.Shares.{weight_le}
use Rattle.share.specs.Sums.{max_total}
use Rattle.share.proofs.Totals.{total_small, weight_none, weight_parts}
use Rattle.share.proofs.weights.weight_by.Goals as goal
use Rattle.share.proofs.weights.weight_by.Goals.{After-row_known-1, Joined-not-within, then-not-within, else-not-within}

known : (c : Joined-not-within) → let a = c.args in
    So (within c.if-not-within.known.0 a.set.0) × (c.if-not-within.have ≡ S.weight_of a.weights.now c.if-not-within.known.0)
known c =
    elim c.if-not-within.branch [
      | then-not-within w ↦ (
        subst (λ (x : ℕ). So (within x c.args.set.0)) (sym (ap (λ x. x.0) w.known-is))
            (within_of {n = 0} c.args.set.0 (pow_pos 0) (λ i l t. absurd (no_bit_zero i t))),
        w.have-is ∙ sym (weight_none c.args.weights.now) ∙ ap (S.weight_of c.args.weights.now) (sym (ap (λ x. x.0) w.known-is)),
      )
      | else-not-within w ↦ (
        subst (λ (x : ℕ). So (within x c.args.set.0)) (sym (ap (λ x. x.0) w.known-is)) (sym c.within.ensures ∙ w.if-not-within.false),
        w.have-is ∙ c.requires.2 ∙ ap (S.weight_of c.args.weights.now) (sym (ap (λ x. x.0) w.known-is)),
      )
    ]

sum : (c : After-row_known-1) → let a = c.args in
    So (within c.if-not-within.known.0 a.set.0) × (c.if-not-within.have ≡ S.weight_of a.weights.now c.if-not-within.known.0)
    → (c.if-not-within.have + c.weight.result ≡ S.weight_of a.weights.now a.set.0)
    × (S.weight_of a.weights.now a.set.0 ≤ max_total)
sum c (inside, is) =
    let a = c.args in (
      ap₂ ◌+◌ is (c.weight.ensures.0 ∙ ap (S.weight_of a.weights.now) c.without.ensures)
          ∙ weight_parts a.weights.now c.if-not-within.known.0 a.set.0 inside,
      omega (
        arith,
        weight_le a.weights.now a.set.0,
        total_small a.weights.now c.requires.0 (λ s. omega (arith, c.shared_slice_known-1.given s)),
      ),
    )

pub weight-requires : goal.weight-requires
weight-requires c =
    let n = length c.args.weights.now in
    (c.requires.0, subst (λ (x : ℕ). x < 2 ^ n) (sym c.without.ensures) (without_lt n _ c.requires.1))

pub overflow_add-result : goal.overflow_add-result
overflow_add-result c = omega (arith, sum (goal.at.overflow_add-result c).After-row_known-1 (known (goal.at.overflow_add-result c).Joined-not-within))

pub returns : goal.returns
returns c = ((sum (goal.at.returns c).After-row_known-1 (known (goal.at.returns c).Joined-not-within)).0, omega (arith, sum (goal.at.returns c).After-row_known-1 (known (goal.at.returns c).Joined-not-within)))
