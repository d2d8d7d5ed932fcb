-- A step from one proposition layer to the next, for effects and persistences: each word as it is met over needs or joined over adders.
-- Sets are read as words of up to m bits, which has room for all effects and propositions.
-- Assumes nothing.
use Prim.Native.Nat.{ℕ, ◌+◌, ◌-◌, ◌≤◌, ◌<◌, ◌^◌}
use mathlib.Core.Path.{◌≡◌, sym, ap, ap₂, subst, ◌∙◌}
use mathlib.Core.Bool.{Bool, false, So}
use mathlib.Core.Logic.{⊎_elim, by_cases}
use native.Mathlib.Decide.{dec_le}
use native.Mathlib.Omega.{arith}
use mathlib.Core.List.{List}
use Rattle.rules.specs.Test.{◌and◌, ◌or◌, fails, same, choose}
use Rattle.rules.specs.Word.{bit, common, union, without, first}
use Rattle.rules.specs.Over.{keep, join_over, join_of, meet_of, any_below}
use Rattle.rules.specs.Domain.{Actions, condition, persistence, siblings, interfere_of, domain}
use Rattle.rules.specs.Layer.{paired, free_in}
use Rattle.rules.specs.Shared.{start_label, vertex_label, action_layer}
use Rattle.rules.specs.Together.{layer_by, Consistent, beside, next_together}
use Rattle.rules.proofs.Tests.{choose_held, choose_failed, and_of, and_left, and_right, or_left, or_right, or_at, fails_of, fails_at, holds_or, test_eq}
use Rattle.rules.proofs.Tests.{same_of, same_at, is_fails, below_not}
use Rattle.rules.proofs.Words.{bit_common, bit_union, bit_without, bit_first, bit_below, no_bit_zero, single_has, single_only, ext_all}
use Rattle.rules.proofs.Members.{bit_join_of, meet_of_at, meet_of_of, meet_only, bit_start_label, start_label_lt}
use Rattle.rules.proofs.Overs.{any_of, any_at, bit_keep, bit_join_over}
use Rattle.rules.proofs.Layers.{paired_of, ordered}
use Rattle.rules.proofs.Domains.{persistence_below, effect_below, needs_effect, adds_effect, deletes_effect, needs_persistence, adds_persistence}
use Rattle.rules.proofs.Domains.{clobbers_of, siblings_turn, interfere_of_lem, interfere_turn, interfere_apart, clobbers_apart, persistence_alone}
use Rattle.rules.proofs.Domains.{persistence_clobbers, clobbers_persistence}
use Rattle.rules.proofs.Togethers.{Has, label_at, label_of, vertex_label_lem, Goes, goes_at, goes_of, free_turn, free_own}
use Rattle.rules.proofs.Togethers.{Added, added_at, added_of, added_turn, beside_at, beside_of_lem}

-- effects and propositions are no more than m, and what an effect needs is a set of the propositions
pub record Sets (m : ℕ) (A : Actions) : Type 0 where
  pub props : A.props ≤ m
  pub effects : A.effects ≤ m
  pub needs : (e : ℕ) → e < A.effects → condition A e < 2 ^ A.props

-- an effect of so many, or the persistence of a proposition
vertex_cases : (A : Actions) (P : ℕ → Type 0) → ((i : ℕ) → i < A.effects → P i) → ((p : ℕ) → p < A.props → P (persistence A p)) → {v : ℕ}
    → v < (domain A).vertices → P v
unfolding domain persistence
vertex_cases A P f g {v} h = by_cases (dec_le A.effects v)
    (λ l. let e : A.effects + (v - A.effects) ≡ v = omega arith in subst P e (g (v - A.effects) (omega arith)))
    (λ l. f v (omega arith))

module _ (m all : ℕ) (A : Actions) (sets : Sets m A) {t : ℕ → ℕ → ℕ} (is : Consistent (domain A).props all t) where
  abbrev layer : List ℕ
  layer = action_layer (domain A) all (layer_by (domain A).props t)

  abbrev free : ℕ → ℕ → ℕ
  free = free_in (domain A).vertices layer

  abbrev label : ℕ → ℕ
  label i = vertex_label (domain A).props all (layer_by (domain A).props t) (condition A i)

  -- of i with q, whatever i deletes
  abbrev pub row_with : ℕ → ℕ → ℕ
  row_with i q = meet_of m (condition A i) (λ p. t p q) (common (t q q) (label i))

  member_lt : {i p : ℕ} → i < A.effects → So (bit p (condition A i)) → p < A.props
  unfolding domain
  member_lt {i} h b = bit_below (sets.needs i h) b

  with_at : (s : ℕ) {i : ℕ} (q : ℕ) → i < A.effects → So (bit s (row_with i q))
      → So (bit s (label i)) × So (bit s (t q q)) × ((p : ℕ) → So (bit p (condition A i)) → So (bit s (t p q)))
  unfolding domain
  with_at s {i} q h b =
      let (u, each) = meet_of_at s (condition A i) (common (t q q) (label i)) (λ p. t p q) b in
      let c = sym (bit_common s (t q q) (label i)) ∙ u in
      (and_right _ c, and_left _ c, λ p n. each p (omega (arith, member_lt h n, sets.props)) n)

  with_of : (s i q : ℕ) → So (bit s (label i)) → So (bit s (t q q)) → ((p : ℕ) → p < m → So (bit p (condition A i)) → So (bit s (t p q))) → So (bit s (row_with i q))
  unfolding domain
  with_of s i q l b each = meet_of_of s (condition A i) (common (t q q) (label i)) (λ p. t p q) (bit_common s (t q q) (label i) ∙ and_of b l) each

  -- the label of an effect: each need with those from it on
  pub admitted : {i : ℕ} → i < A.effects → meet_of m (condition A i) (λ p. meet_of m (without (condition A i) (first p)) (t p) all) all ≡ label i
  unfolding domain
  admitted {i} h = ext_all (λ s. test_eq
      (λ b. let (a, each) = meet_of_at s need all with_rest b in
      label_of (domain A).props all t is (record {
        inside = a;
        both = λ p q hp hq np nq. by_cases (dec_le p q)
            (λ l. rising s p q hq nq l (each p (omega (arith, sets.props)) np))
            (λ l. ap (bit s) (is.turn p q hp hq) ∙ rising s q p hp np (omega arith) (each q (omega (arith, sets.props)) nq));
      }))
      (λ b. let l = label_at (domain A).props all t is b in
      meet_of_of s need all with_rest l.inside (λ p _ np. meet_of_of s (rest p) all (t p) l.inside (λ q _ nq.
      let n = and_left _ (sym (bit_without q need (first p)) ∙ nq) in
      l.both p q (member_lt h np) (member_lt h n) np n))))
    where
      need : ℕ
      need = condition A i

      rest : ℕ → ℕ
      rest p = without need (first p)

      with_rest : ℕ → ℕ
      with_rest p = meet_of m (rest p) (t p) all

      rising : (s p q : ℕ) → q < A.props → So (bit q need) → p ≤ q → So (bit s (with_rest p)) → So (bit s (t p q))
      rising s p q h n l b = let (_, each) = meet_of_at s (rest p) all (t p) b in
          each q (omega (arith, sets.props)) (bit_without q need (first p) ∙ and_of n (ap fails (bit_first q p) ∙ is_fails (below_not l)))

  -- ---- vertices of the layer

  has : {s i : ℕ} → i < A.effects → Has (domain A).props all t is s ((domain A).needs i) → Has (domain A).props all t is s (condition A i)
  unfolding domain
  has {s} h l = subst (Has (domain A).props all t is s) (needs_effect A h) l

  interfering : {v w : ℕ} → (v ≡ w → ⊥) → So (interfere_of A v w) → So (paired false (domain A).interfere v w)
  unfolding domain
  interfering {v} {w} ne c = paired_of _ v w (fails_of (λ e. ne (same_at e))) (ordered (λ a b. So (interfere_of A a b)) c (interfere_turn A v w c))

  behind : {i : ℕ} (q : ℕ) → i < A.effects → i ≡ persistence A q → ⊥
  unfolding persistence domain
  behind q h e = omega arith

  persistences : {p q : ℕ} → persistence A p ≡ persistence A q → p ≡ q
  unfolding persistence domain
  persistences e = omega arith

  deletes_not : {i : ℕ} (q : ℕ) → i < A.effects → So (fails (paired false (domain A).interfere i (persistence A q))) → So (bit q (A.del i)) → ⊥
  unfolding domain
  deletes_not {i} q h f d = fails_at f (interfering (behind q h) (interfere_of_lem A i (persistence A q) (persistence_alone A i q)
      (clobbers_of A i (persistence A q) q (ap (bit q) (deletes_effect A h) ∙ d) (or_left _ (single_has q (needs_persistence A q))))))

  -- the persistence of q has what q has
  has_prop : {s q : ℕ} → q < A.props → So (bit s (t q q)) → Has (domain A).props all t is s ((domain A).needs (persistence A q))
  unfolding domain
  has_prop {s} {q} h b = record {
    inside = is.inside s q h b;
    both = λ p r hp hr np nr.
        let ep : p ≡ q = single_only (needs_persistence A q) np in
        let er : r ≡ q = single_only (needs_persistence A q) nr in
        ap₂ (λ (x y : ℕ). bit s (t x y)) ep er ∙ b;
  }

  prop_has : {s q : ℕ} → q < A.props → Has (domain A).props all t is s ((domain A).needs (persistence A q)) → So (bit s (t q q))
  unfolding domain
  prop_has {q} h l = l.both q q h h (single_has q (needs_persistence A q)) (single_has q (needs_persistence A q))

  acts : {s i : ℕ} → i < A.effects → Has (domain A).props all t is s (condition A i) → Has (domain A).props all t is s ((domain A).needs i)
  unfolding domain
  acts {s} h l = subst (Has (domain A).props all t is s) (sym (needs_effect A h)) l

  needs_it : (p : ℕ) → So (bit p ((domain A).needs (persistence A p)))
  unfolding domain
  needs_it p = single_has p (needs_persistence A p)

  only : {a p : ℕ} → So (bit a ((domain A).needs (persistence A p))) → a ≡ p
  unfolding domain
  only {p} n = single_only (needs_persistence A p) n

  -- an effect and a persistence
  prop_at : {s i q : ℕ} → i < A.effects → q < A.props → So (bit s (free i (persistence A q))) → Goes (domain A) all t is s i (persistence A q)
  unfolding domain
  prop_at {q} h k b = goes_at (domain A) all t is (effect_below A h) (persistence_below A k) (behind q h) b

  prop_of : {s i q : ℕ} → i < A.effects → q < A.props → Has (domain A).props all t is s (condition A i) → So (bit s (t q q)) → (So (bit q (A.del i)) → ⊥)
      → ((p : ℕ) → p < A.props → So (bit p (condition A i)) → So (bit s (t p q))) → So (bit s (free i (persistence A q)))
  unfolding domain
  prop_of {s} {i} {q} h k l b d each = goes_of (domain A) all t is (effect_below A h) (persistence_below A k) (behind q h) (record {
    left = acts h l;
    right = has_prop k b;
    apart = fails_of (clobbers_apart A i (persistence A q)
        (clobbers_persistence A i q (λ x. d (ap (bit q) (sym (deletes_effect A h)) ∙ x))) (persistence_clobbers A q i));
    across = λ p r hp hr np nr.
        ap (λ (x : ℕ). bit s (t p x)) (single_only (needs_persistence A q) nr) ∙ each p hp (ap (bit p) (sym (needs_effect A h)) ∙ np);
  })

  pub with_prop_lem : {i q : ℕ} → i < A.effects → q < A.props → choose (bit q (A.del i)) 0 (row_with i q) ≡ free i (persistence A q)
  unfolding domain
  with_prop_lem {i} {q} h k = ⊎_elim
      (λ d. choose_held _ d ∙ ext_all (λ s. test_eq (λ b. absurd (no_bit_zero s b)) (λ b. absurd (deletes_not q h (prop_at h k b).apart d))))
      (λ d. choose_failed _ _ d ∙ ext_all (λ s. test_eq (λ b.
      let (l, e, each) = with_at s q h b in
      prop_of h k (label_at (domain A).props all t is l) e (fails_at d) (λ p hp np. each p np))
      (λ b.
      let g = prop_at h k b in
      with_of s i q (label_of (domain A).props all t is (has h g.left)) (prop_has k g.right) (λ p j np.
      g.across p q (member_lt h np) k (ap (bit p) (needs_effect A h) ∙ np) (single_has q (needs_persistence A q))))))
      (holds_or (bit q (A.del i)))

  -- two effects, by what the one has with the needs of the other
  pub with_effect_lem : {i j : ℕ} {interfere : Bool} → i < A.effects → j < A.effects → (i ≡ j → ⊥) → interfere ≡ interfere_of A i j
      → choose interfere 0 (meet_of m (condition A i) (row_with j) (common (label j) (label i))) ≡ free i j
  unfolding domain
  with_effect_lem {i} {j} {interfere} h k ne e = ⊎_elim
      (λ d. choose_held _ d ∙ ext_all (λ s. test_eq (λ b. absurd (no_bit_zero s b)) (λ b. absurd (fails_at (goes s b).apart (interfering ne (sym e ∙ d))))))
      (λ d. choose_failed _ _ d ∙ ext_all (λ s. test_eq (to s d) (from s)))
      (holds_or interfere)
    where
      goes : (s : ℕ) → So (bit s (free i j)) → Goes (domain A) all t is s i j
      goes s b = goes_at (domain A) all t is (effect_below A h) (effect_below A k) ne b

      to : (s : ℕ) → So (fails interfere) → So (bit s (meet_of m (condition A i) (row_with j) (common (label j) (label i)))) → So (bit s (free i j))
      to s d b =
          let (u, each) = meet_of_at s (condition A i) (common (label j) (label i)) (row_with j) b in
          let c = sym (bit_common s (label j) (label i)) ∙ u in
          goes_of (domain A) all t is (effect_below A h) (effect_below A k) ne (record {
            left = acts h (label_at (domain A).props all t is (and_right _ c));
            right = acts k (label_at (domain A).props all t is (and_left _ c));
            apart = fails_of (interfere_apart A i j (λ x. fails_at d (e ∙ x)));
            across = λ p q hp hq np nq.
                let n : So (bit p (condition A i)) = ap (bit p) (sym (needs_effect A h)) ∙ np in
                let (_, _, all_needs) = with_at s p k (each p (omega (arith, sets.props)) n) in
                ap (bit s) (is.turn p q hp hq) ∙ all_needs q (ap (bit q) (sym (needs_effect A k)) ∙ nq);
          })

      from : (s : ℕ) → So (bit s (free i j)) → So (bit s (meet_of m (condition A i) (row_with j) (common (label j) (label i))))
      from s b =
          let g = goes s b in
          let l = has h g.left in
          let r = label_of (domain A).props all t is (has k g.right) in
          meet_of_of s (condition A i) (common (label j) (label i)) (row_with j)
          (bit_common s (label j) (label i) ∙ and_of r (label_of (domain A).props all t is l))
          (λ p _ np.
          let hp : p < A.props = member_lt h np in
          with_of s j p r (l.both p p hp hp np np) (λ q _ nq.
          let hq : q < A.props = member_lt k nq in
          ap (bit s) (is.turn q p hq hp) ∙ g.across p q hp hq (ap (bit p) (needs_effect A h) ∙ np) (ap (bit q) (needs_effect A k) ∙ nq)))

  -- of effects of different actions, by the persistences of those needs: where the other deletes one, the two interfere
  pub with_other : {i j : ℕ} {interfere : Bool} → i < A.effects → j < A.effects → (i ≡ j → ⊥) → (So (siblings A i j) → ⊥) → interfere ≡ interfere_of A i j
      → choose interfere 0 (meet_of m (condition A i) (λ p. free j (persistence A p)) (common (label j) (label i))) ≡ free i j
  unfolding domain
  with_other {i} {j} {interfere} h k ne f e = ⊎_elim
      (λ d. choose_held _ d ∙ sym (choose_held _ d))
      (λ d. choose_failed _ _ d
      ∙ meet_only (condition A i) _ (λ p _ np. sym (with_prop_lem k (member_lt h np)) ∙ choose_failed _ _ (fails_of (stays d p np))) ∙ sym (choose_failed _ _ d))
      (holds_or interfere) ∙ with_effect_lem h k ne e
    where
      stays : So (fails interfere) → (p : ℕ) → So (bit p (condition A i)) → So (bit p (A.del j)) → ⊥
      stays d p np x = fails_at d (e ∙ interfere_turn A j i (interfere_of_lem A j i (λ s. f (siblings_turn A j i s))
          (clobbers_of A j i p (ap (bit p) (deletes_effect A k) ∙ x) (or_left _ (ap (bit p) (needs_effect A h) ∙ np)))))

  -- two persistences are together in what their propositions are
  kept : (s : ℕ) {p q : ℕ} → p < A.props → q < A.props → So (bit s (t p q)) → So (bit s (free (persistence A p) (persistence A q)))
  unfolding domain
  kept s {p} {q} hp hq f =
      let bp : So (bit s (t p p)) = is.part s p q hp hq f in
      let bq : So (bit s (t q q)) = is.part s q p hq hp (ap (bit s) (is.turn q p hq hp) ∙ f) in
      ⊎_elim
      (λ e. ap (λ (x : ℕ). bit s (free (persistence A p) (persistence A x))) (sym (same_at e))
      ∙ ap (bit s) (free_own (domain A).vertices layer (persistence A p))
      ∙ ap (bit s) (vertex_label_lem (domain A) all t is (persistence_below A hp))
      ∙ label_of (domain A).props all t is (has_prop hp bp))
      (λ d.
      goes_of (domain A) all t is (persistence_below A hp) (persistence_below A hq)
      (λ e. fails_at d (same_of (persistences e))) (record {
        left = has_prop hp bp;
        right = has_prop hq bq;
        apart = fails_of (clobbers_apart A _ _ (persistence_clobbers A p _) (persistence_clobbers A q _));
        across = λ a b ha hb na nb. ap₂ (λ (x y : ℕ). bit s (t x y)) (only na) (only nb) ∙ f;
      }))
      (holds_or (same p q))

  two : (s : ℕ) {a c : ℕ} → a < A.props → c < A.props → So (bit s (free (persistence A a) (persistence A c))) → So (bit s (t a c))
  unfolding domain
  two s {a} {c} ha hc f = ⊎_elim
      (λ e. let q : a ≡ c = same_at e in
      ap (λ (x : ℕ). bit s (t a x)) (sym q) ∙ prop_has ha (label_at (domain A).props all t is
      (ap (bit s) (sym (vertex_label_lem (domain A) all t is (persistence_below A ha))) ∙ ap (bit s)
      (sym (free_own (domain A).vertices layer (persistence A a))) ∙ ap (λ (x : ℕ). bit s (free (persistence A a) (persistence A x))) q ∙ f)))
      (λ d. (goes_at (domain A) all t is (persistence_below A ha) (persistence_below A hc)
      (λ e. fails_at d (same_of (persistences e))) f).across a c ha hc (needs_it a) (needs_it c))
      (holds_or (same a c))

  pub both_kept : {p q : ℕ} → p < A.props → q < A.props → free (persistence A p) (persistence A q) ≡ t p q
  unfolding domain
  both_kept hp hq = ext_all (λ s. test_eq (two s hp hq) (kept s hp hq))

  -- ---- vertices that add p

  abbrev pub adders : ℕ → ℕ
  adders p = start_label A.effects A.add p

  adds_it : {i : ℕ} (p : ℕ) → i < A.effects → So (bit p (A.add i)) → So (bit p ((domain A).adds i))
  unfolding domain
  adds_it p h b = ap (bit p) (adds_effect A h) ∙ b

  it_adds : {i : ℕ} (p : ℕ) → i < A.effects → So (bit p ((domain A).adds i)) → So (bit p (A.add i))
  unfolding domain
  it_adds p h b = ap (bit p) (sym (adds_effect A h)) ∙ b

  keeps_it : (p : ℕ) → So (bit p ((domain A).adds (persistence A p)))
  unfolding domain
  keeps_it p = single_has p (adds_persistence A p)

  it_keeps : {p q : ℕ} → So (bit q ((domain A).adds (persistence A p))) → q ≡ p
  unfolding domain
  it_keeps {p} b = single_only (adds_persistence A p) b

  -- what v is together with among the effects that add p
  abbrev with_adders : ℕ → ℕ → ℕ
  with_adders v p = join_over A.effects (λ j. keep (bit p (A.add j)) (free v j))

  adders_bits : (v p s : ℕ) → bit s (with_adders v p) ≡ any_below A.effects (λ j. bit p (A.add j) and bit s (free v j))
  adders_bits v p s = bit_join_over s _ (λ j l. bit_keep s (bit p (A.add j)) _)

  -- what v is together with among the adders of p: its persistence, and the effects
  pub besides : (v : ℕ) {p : ℕ} → p < A.props → beside (domain A) layer v p ≡ union (free v (persistence A p)) (with_adders v p)
  unfolding domain
  besides v {p} k = ext_all (λ s. test_eq (λ b. let (w, h, n, f) = beside_at (domain A) layer s v p b in
      bit_union s (free v (persistence A p)) _ ∙ vertex_cases A
      (λ w. So (bit p ((domain A).adds w)) → So (bit s (free v w)) → So (bit s (free v (persistence A p)) or bit s (with_adders v p)))
      (λ j l n f. or_right _ (adders_bits v p s ∙ any_of _ l (and_of (it_adds p l n) f)))
      (λ q l n f. or_left _ (subst (λ (x : ℕ). So (bit s (free v (persistence A x)))) (sym (it_keeps n)) f))
      h n f)
      (λ b. ⊎_elim
      (λ f. beside_of_lem (domain A) layer s v p (persistence_below A k) (keeps_it p) f)
      (λ f. let (j, l, u) = any_at (sym (adders_bits v p s) ∙ f) in
      beside_of_lem (domain A) layer s v p (effect_below A l) (adds_it p l (and_left _ u)) (and_right _ u))
      (or_at (sym (bit_union s (free v (persistence A p)) _) ∙ b))))

  -- by the rows of its adders
  pub beside_rows : (i : ℕ) {p : ℕ} → p < A.props → union (free i (persistence A p)) (join_of m (adders p) (λ j. free j i)) ≡ beside (domain A) layer i p
  unfolding domain
  beside_rows i {p} k = ap (union (free i (persistence A p))) (ext_all (λ s. test_eq
      (λ b. let (j, l, u) = any_at (sym (bit_join_of s m (adders p) (λ j. free j i)) ∙ b) in
      let h : j < A.effects = bit_below (start_label_lt A.effects A.add p) (and_left _ u) in
      adders_bits i p s ∙ any_of _ h (and_of (sym (bit_start_label A.add p h) ∙ and_left _ u)
      (ap (bit s) (free_turn (domain A).vertices layer i j) ∙ and_right _ u)))
      (λ b. let (j, h, u) = any_at (sym (adders_bits i p s) ∙ b) in
      bit_join_of s m (adders p) (λ j. free j i) ∙ any_of _ (omega (arith, sets.effects)) (and_of
      (bit_start_label A.add p h ∙ and_left _ u) (ap (bit s) (free_turn (domain A).vertices layer j i) ∙ and_right _ u)))))
      ∙ sym (besides i k)

  -- one by one: those of a set, itself, and none of the others
  pub beside_few : {i p set : ℕ} → i < A.effects → p < A.props → set < 2 ^ A.effects
      → ((j : ℕ) → j < A.effects → (j ≡ i → ⊥) → So (fails (bit j set)) → free i j ≡ 0)
      → union (union (free i (persistence A p)) (join_of m set (λ j. keep (bit p (A.add j)) (free i j)))) (keep (bit p (A.add i)) (free i i))
      ≡ beside (domain A) layer i p
  unfolding domain
  beside_few {i} {p} {set} hi k inside none = ext_all (λ s. test_eq (to s) (from s)) ∙ sym (besides i k)
    where
      few : ℕ
      few = join_of m set (λ j. keep (bit p (A.add j)) (free i j))

      to : (s : ℕ) → So (bit s (union (union (free i (persistence A p)) few) (keep (bit p (A.add i)) (free i i))))
          → So (bit s (union (free i (persistence A p)) (with_adders i p)))
      to s b = bit_union s _ (with_adders i p) ∙ ⊎_elim
          (λ u. ⊎_elim
          (λ x. or_left _ x)
          (λ x. let (j, l, y) = any_at (sym (bit_join_of s m set _) ∙ x) in
          or_right _ (adders_bits i p s ∙ any_of _ (bit_below inside (and_left _ y)) (sym (bit_keep s (bit p (A.add j)) _) ∙ and_right _ y)))
          (or_at (sym (bit_union s (free i (persistence A p)) few) ∙ u)))
          (λ u. or_right _ (adders_bits i p s ∙ any_of _ hi (sym (bit_keep s (bit p (A.add i)) _) ∙ u)))
          (or_at (sym (bit_union s (union (free i (persistence A p)) few) _) ∙ b))

      one : (s j : ℕ) → j < A.effects → So (bit p (A.add j)) → So (bit s (free i j))
          → So (bit s (union (free i (persistence A p)) few) or bit s (keep (bit p (A.add i)) (free i i)))
      one s j h n f = ⊎_elim
          (λ e. let q : j ≡ i = same_at e in or_right _ (bit_keep s (bit p (A.add i)) _ ∙ and_of
          (ap (λ (x : ℕ). bit p (A.add x)) (sym q) ∙ n) (ap (λ (x : ℕ). bit s (free i x)) (sym q) ∙ f)))
          (λ d. ⊎_elim
          (λ y. or_left _ (bit_union s (free i (persistence A p)) few ∙ or_right _ (bit_join_of s m set _
          ∙ any_of _ (omega (arith, sets.effects)) (and_of y (bit_keep s (bit p (A.add j)) _ ∙ and_of n f)))))
          (λ y. absurd (no_bit_zero s (ap (bit s) (sym (none j h (λ q. fails_at d (same_of q)) y)) ∙ f)))
          (holds_or (bit j set)))
          (holds_or (same j i))

      from : (s : ℕ) → So (bit s (union (free i (persistence A p)) (with_adders i p)))
          → So (bit s (union (union (free i (persistence A p)) few) (keep (bit p (A.add i)) (free i i))))
      from s b = bit_union s (union (free i (persistence A p)) few) _ ∙ ⊎_elim
          (λ u. or_left _ (bit_union s (free i (persistence A p)) few ∙ or_left _ u))
          (λ u. let (j, h, y) = any_at (sym (adders_bits i p s) ∙ u) in one s j h (and_left _ y) (and_right _ y))
          (or_at (sym (bit_union s (free i (persistence A p)) (with_adders i p)) ∙ b))

  -- ---- the next layer

  abbrev half_of : ℕ → ℕ → ℕ
  half_of p q = union (t p q) (join_of m (adders p) (λ i. beside (domain A) layer i q))

  half_at : {s p q : ℕ} → p < A.props → q < A.props → So (bit s (half_of p q)) → Added (domain A) layer s p q
  unfolding domain
  half_at {s} {p} {q} hp hq b = ⊎_elim
      (λ f. record {
        v = persistence A p;
        w = persistence A q;
        v_lt = persistence_below A hp;
        w_lt = persistence_below A hq;
        adds_p = keeps_it p;
        adds_q = keeps_it q;
        free = ap (bit s) (both_kept hp hq) ∙ f;
      })
      (λ f.
      let (i, l, u) = any_at (sym (bit_join_of s m (adders p) _) ∙ f) in
      let h : i < A.effects = bit_below (start_label_lt A.effects A.add p) (and_left _ u) in
      let (w, k, n, g) = beside_at (domain A) layer s i q (and_right _ u) in
      record {
        v = i;
        w = w;
        v_lt = effect_below A h;
        w_lt = k;
        adds_p = adds_it p h (sym (bit_start_label A.add p h) ∙ and_left _ u);
        adds_q = n;
        free = g;
      })
      (or_at (sym (bit_union s (t p q) _) ∙ b))

  half_of_lem : (s p q : ℕ) {i : ℕ} → i < A.effects → So (bit p (A.add i)) → So (bit s (beside (domain A) layer i q)) → So (bit s (half_of p q))
  unfolding domain
  half_of_lem s p q h n b =
      bit_union s (t p q) _ ∙ or_right _ (bit_join_of s m (adders p) _
      ∙ any_of _ (omega (arith, sets.effects)) (and_of (bit_start_label A.add p h ∙ n) b))

  pub next_cells : {p q : ℕ} → p < A.props → q < A.props → union (half_of p q) (half_of q p) ≡ next_together (domain A) layer p q
  unfolding domain
  next_cells {p} {q} hp hq = ext_all (λ s. test_eq (λ b. added_of (domain A) layer (⊎_elim
      (λ f. half_at hp hq f)
      (λ f. added_turn (domain A) layer (half_at hq hp f))
      (or_at (sym (bit_union s (half_of p q) (half_of q p)) ∙ b))))
      (λ b. bit_union s (half_of p q) (half_of q p) ∙ from s (added_at (domain A) layer b)))
    where
      from : (s : ℕ) → Added (domain A) layer s p q → So (bit s (half_of p q) or bit s (half_of q p))
      from s r = vertex_cases A
          (λ v. So (bit p ((domain A).adds v)) → So (bit s (free v r.w)) → So (bit s (half_of p q) or bit s (half_of q p)))
          (λ i h n f. or_left _ (half_of_lem s p q h (it_adds p h n) (beside_of_lem (domain A) layer s i q r.w_lt r.adds_q f)))
          (λ a ha n f. vertex_cases A
          (λ w. So (bit q ((domain A).adds w)) → So (bit s (free (persistence A a) w)) → So (bit s (half_of p q) or bit s (half_of q p)))
          (λ j h n' f'. or_right _ (half_of_lem s q p h (it_adds q h n') (beside_of_lem (domain A) layer s j p (persistence_below A ha) n
          (ap (bit s) (free_turn (domain A).vertices layer j (persistence A a)) ∙ f'))))
          (λ c hc n' f'. or_left _ (bit_union s (t p q) _ ∙ or_left _
          (ap₂ (λ (x y : ℕ). bit s (t x y)) (it_keeps n) (it_keeps n') ∙ (ap (bit s) (sym (both_kept ha hc)) ∙ f'))))
          r.w_lt r.adds_q f)
          r.v_lt r.adds_p r.free
