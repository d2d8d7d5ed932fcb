-- The search for the first layer where the weight is enough.
-- Assumes nothing.
use mathlib.Core.Path.{◌≡◌, sym, ap, subst, ◌∙◌}
use mathlib.Core.Bool.{So}
use mathlib.Core.List.{List}
use Prim.Native.Nat.{ℕ, suc, ◌+◌, ◌*◌, ◌≤◌, ◌<◌}
use native.Mathlib.Nat.{zero-mul}
use native.Mathlib.Numerals.{add-one}
use native.Mathlib.Omega.{arith}
use lib.ListN.{length}
use Rattle.rules.specs.Word.{first, within}
use Rattle.rules.specs.Layer.{props_in}
use Rattle.rules.specs.Share.{Share, weight_of, total, holders, enough, first_enough}
use Rattle.rules.specs.declared.Shape.{Shape}
use Rattle.rules.proofs.Shares.{enough_of, enough_at, enough_mono}
use Rattle.level.proofs.Searches.{Sought, sought_none, sought_over, sought_found, sought_all}
use Rattle.share.proofs.Totals.{weight_none}

module _ (S : Shape) (k : ℕ) (share : Share) (goal : ℕ) (words : List ℕ) where
  -- the states that hold the goal in layer t
  abbrev pub held_in : ℕ → ℕ
  held_in t = holders S.props (first (length share.weights)) (props_in S words t) goal

  abbrev wanted : ℕ
  wanted = total share.weights * share.numerator

  -- no layer before t has enough, and neither are these states enough, whose weight is known
  pub record Seeking (short have t : ℕ) : Type 0 where
    pub so_far : Sought (λ i. enough share (held_in i)) (suc k) t
    pub light : So (enough share short) → ⊥
    pub is : have ≡ weight_of share.weights short

  -- for a share of nothing no state is enough
  pub at_once : wanted ≡ 0 → 0 ≡ first_enough S k share goal words
  unfolding first_enough
  at_once e = sought_found sought_none (omega arith) (enough_of share (held_in 0) (omega (arith, e)))

  -- for any other share it is not
  pub seeking_none : (wanted ≡ 0 → ⊥) → Seeking 0 0 0
  seeking_none n = record {
    so_far = sought_none;
    light = λ t. n (omega (arith, enough_at share 0 t, ap (λ (x : ℕ). x * share.denominator) (weight_none share.weights), zero-mul share.denominator));
    is = sym (weight_none share.weights);
  }

  module _ {short have t : ℕ} (s : Seeking short have t) where
    pub seeking_end : k < t → k + 1 ≡ first_enough S k share goal words
    unfolding first_enough
    seeking_end h = add-one k ∙ sought_all s.so_far (omega arith)

    module _ (deep : t ≤ k) where
      next : (So (enough share (held_in t)) → ⊥) → Sought (λ i. enough share (held_in i)) (suc k) (t + 1)
      next n = sought_over s.so_far n (omega arith) (omega arith) (λ i l h. absurd (omega arith))

      -- what holds the goal in layer t lies within what falls short
      pub seeking_on : So (within (held_in t) short) → Seeking short have (t + 1)
      seeking_on h = record { so_far = next (λ u. s.light (enough_mono share (held_in t) short h u)); light = s.light; is = s.is }

      -- else it is weighed
      module _ {held now : ℕ} (e : held ≡ held_in t) (w : now ≡ weight_of share.weights held) where
        pub seeking_found : wanted ≤ now * share.denominator → t ≡ first_enough S k share goal words
        unfolding first_enough
        seeking_found h = sought_found s.so_far (omega arith) (subst (λ (x : ℕ). So (enough share x)) e
            (enough_of share held (omega (arith, h, ap (λ (x : ℕ). x * share.denominator) w))))

        pub seeking_more : now * share.denominator < wanted → Seeking held now (t + 1)
        seeking_more h = record { so_far = next (subst (λ (x : ℕ). So (enough share x) → ⊥) e not); light = not; is = w }
          where
            not : So (enough share held) → ⊥
            not u = omega (arith, enough_at share held u, h, ap (λ (x : ℕ). x * share.denominator) w)
