-- The level of a set is the largest of the levels that its states have by themselves.
-- Assumes nothing.
use mathlib.Core.Path.{◌≡◌, refl, sym, ap, ◌∙◌}
use mathlib.Core.Bool.{So}
use mathlib.Core.Logic.{◌⊎◌, inl, inr, ⊎_elim}
use mathlib.Core.List.{List}
use Prim.Native.Nat.{ℕ, zero, suc, max, ◌≤◌}
use native.Mathlib.Omega.{arith}
use Rattle.rules.specs.Word.{bit}
use Rattle.rules.specs.Over.{keep, any_below, greatest}
use Rattle.rules.specs.Level.{level}
use Rattle.rules.proofs.Tests.{holds_or, fails_at}
use Rattle.rules.proofs.Words.{no_bits}
use Rattle.rules.proofs.Overs.{any_of, any_at, keep_held, keep_failed}
use Rattle.rules.proofs.Layers.{which}
use Rattle.rules.proofs.Domains.{keeps}
use Rattle.rules.proofs.Claims.{greatest_level, level_exists, level_only}
use Rattle.graph.specs.Verdict.{accepted}
use Rattle.graph.specs.Format.{actions_of, start_of, domain_of}
use Rattle.graph.specs.declared.format.Counts.{Counts}
use Rattle.level.specs.Rule.{level_rule}
use Rattle.theorems.specs.Setting.{Exactly, Found, StatesOf, GoalOf, Each, alone, Largest}
use Rattle.theorems.proofs.Founds.{built, level_answer, level_says_lem, is_state}

-- the greatest of some numbers is one of them, or 0
greatest_is : (n : ℕ) (g : ℕ → ℕ) → (greatest n g ≡ 0) ⊎ ((i : ℕ) × (g i ≡ greatest n g))
unfolding greatest
greatest_is zero g = inl refl
greatest_is (suc n) g = ⊎_elim
    (λ h.
    let e : max (greatest n g) (g n) ≡ greatest n g = omega arith in
    ⊎_elim (λ z. inl (e ∙ z)) (λ (i, q). inr (i, q ∙ sym e)) (greatest_is n g))
    (λ h. inr (n, omega arith))
    (which (g n) (greatest n g))

-- a set that is not empty has a state
member_of : {c : Counts} {set : ℕ} → StatesOf c set → (s : ℕ) × So (bit s set)
member_of {c} {set} h = ⊎_elim
    (λ t. let (s, l, b) = any_at t in (s, b))
    (λ t. absurd (h.some (no_bits h.few (λ i l b. fails_at t (any_of _ l b)))))
    (holds_or (any_below c.states (λ s. bit s set)))

module _ {file : List ℕ} {c : Counts} {depth : ℕ} {found : List ℕ} (f : Found file c depth found) {set goal : ℕ} (some : StatesOf c set)
    (over : GoalOf c goal) where
  abbrev lev : ℕ → ℕ
  lev s = keep (bit s set) (alone file c depth goal s)

  -- one of the states has the greatest level
  one_has : (t : ℕ) → t ≡ greatest c.states lev → Each set (λ s. alone file c depth goal s ≤ t) → Largest file c depth set goal t
  one_has t e each = ⊎_elim zero_case
      (λ (i, q). ⊎_elim
      (λ b. record { none_larger = each; state = i; member = b; reached = sym (keep_held _ b) ∙ q ∙ sym e })
      (λ b. zero_case (sym q ∙ keep_failed _ _ b))
      (holds_or (bit i set)))
      (greatest_is c.states lev)
    where
      zero_case : greatest c.states lev ≡ 0 → Largest file c depth set goal t
      zero_case z = let (s, b) = member_of some in record { none_larger = each; state = s; member = b; reached = omega (arith, each s b) }

  pub largest : (t : ℕ) → level_rule file depth set goal found ≡ accepted (level t) → (t ≤ depth) × Largest file c depth set goal t
  largest t e =
      let (l, q, each) = level_only _ _ _ depth found (built f) goal some.few (keeps (actions_of file c)) (level_says_lem f set goal some over _ e) in
      (l, one_has t q (λ s b. each s (is_state some s b) b))

  greatest_answered : Each set (λ s. alone file c depth goal s ≤ depth)
      → level_rule file depth set goal found ≡ accepted (level (greatest_level (domain_of file c) c.states (start_of file c) depth set goal))
  greatest_answered each =
      level_answer f set goal some over
      ∙ ap accepted (level_exists _ _ _ depth found (built f) goal some.few (keeps (actions_of file c)) (λ s h b. each s b))

  pub answered : (t : ℕ) → t ≤ depth → Largest file c depth set goal t → level_rule file depth set goal found ≡ accepted (level t)
  answered t l h =
      let e = greatest_answered (λ s b. let k = h.none_larger s b in omega arith) in
      let (m, g) = largest _ e in
      e ∙ ap (λ (x : ℕ). accepted (level x)) (omega (arith, h.reached, g.reached, h.none_larger _ g.member, g.none_larger _ h.member))

  pub exists_exactly : Exactly ((t : ℕ) × (level_rule file depth set goal found ≡ accepted (level t))) (Each set (λ s. alone file c depth goal s ≤ depth))
  exists_exactly = (
    (λ (t, e) s b. let (l, g) = largest t e in omega (arith, g.none_larger s b)),
    (λ each. (_, greatest_answered each)),
  )
