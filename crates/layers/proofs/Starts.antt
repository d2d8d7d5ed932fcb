-- Layer 0 by its table.
-- Assumes nothing.
use Prim.Native.Nat.{ℕ, ◌≤◌, ◌<◌}
use mathlib.Core.Path.{◌≡◌, sym, ap, ap₂, subst, ◌∙◌}
use mathlib.Core.Bool.{So}
use mathlib.Core.List.{List}
use native.Mathlib.Omega.{arith}
use lib.ListN.{get_or}
use Rattle.rules.specs.Word.{bit, common, without}
use Rattle.rules.specs.Domain.{Actions, domain}
use Rattle.rules.specs.Layer.{layer_of}
use Rattle.rules.specs.Together.{layer_by, Consistent}
use Rattle.rules.proofs.Tests.{and_of, and_left, and_right, fails_at, test_eq}
use Rattle.rules.proofs.Words.{bit_common, bit_without, no_bit_zero, ext_all}
use Rattle.rules.proofs.Layers.{layer_eq}
use Rattle.rules.proofs.Togethers.{common_turn}
use Rattle.words.specs.Rows.{cell}
use Rattle.layers.specs.Step.{Tells}

none_less : (x : ℕ) → without x x ≡ 0
none_less x = ext_all (λ s. test_eq (λ b. let u = sym (bit_without s x x) ∙ b in absurd (fails_at (and_right _ u) (and_left _ u)))
    (λ b. absurd (no_bit_zero s b)))

common_self : (x : ℕ) → common x x ≡ x
common_self x = ext_all (λ s. bit_common s x x ∙ test_eq (λ b. and_left _ b) (λ b. and_of b b))

module _ (n width : ℕ) (labels t : List ℕ) (few : n ≤ width)
    (is : (p q : ℕ) → p < n → q < width → cell t p q ≡ common (get_or labels q 0) (get_or labels p 0)) where
  at : (p q : ℕ) → p < n → q < n → cell t p q ≡ common (get_or labels q 0) (get_or labels p 0)
  at p q h k = is p q h (omega arith)

  pub start_diagonal : (p : ℕ) → p < n → get_or labels p 0 ≡ cell t p p
  start_diagonal p h = sym (at p p h h ∙ common_self (get_or labels p 0))

  pub start_layer_lem : layer_by n (cell t) ≡ layer_of n (λ p. get_or labels p 0) (λ p q. 0)
  unfolding layer_by
  start_layer_lem = layer_eq (λ p h. sym (start_diagonal p h)) (λ p q h k.
      let hp : p < n = omega arith in
      ap₂ without (ap₂ common (sym (start_diagonal p hp)) (sym (start_diagonal q k))) (at p q hp k ∙ common_turn (get_or labels q 0) (get_or labels p 0))
      ∙ none_less (common (get_or labels p 0) (get_or labels q 0)))

  pub start_tells : (A : Actions) (all : ℕ) → A.props ≡ n → ((s p : ℕ) → p < n → So (bit s (get_or labels p 0)) → So (bit s all)) → Tells A all labels t
  unfolding domain
  start_tells A all e inside = record {
    consistent = subst (λ (x : ℕ). Consistent x all (cell t)) (sym e) (record {
      turn = λ p q h k. at p q h k ∙ common_turn (get_or labels q 0) (get_or labels p 0) ∙ sym (at q p k h);
      part = λ s p q h k b. ap (bit s) (sym (start_diagonal p h)) ∙ and_right _ (sym (bit_common s (get_or labels q 0) (get_or labels p 0)) ∙ (ap (bit s) (sym (at p q h k)) ∙ b));
      inside = λ s p h b. inside s p h (ap (bit s) (start_diagonal p h) ∙ b);
    });
    diagonal = λ p h. start_diagonal p (subst (λ (x : ℕ). p < x) e h);
  }
