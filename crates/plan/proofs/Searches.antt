-- A layer's search as the two loops run it: what is left of the layer at proposition p, and of the search for p at place k of its order.
-- Assumes nothing.
use mathlib.Core.Path.{◌≡◌, refl, sym, ap, ap₂, ◌∙◌}
use mathlib.Core.List.{List, [], ◌∷◌}
use mathlib.Core.Bool.{Bool, false, So}
use mathlib.Core.Logic.{⊎_elim, by_cases}
use Prim.Native.Nat.{ℕ, zero, suc, ◌+◌, ◌-◌, ◌≤◌, ◌<◌}
use native.Mathlib.Decide.{dec_lt}
use native.Mathlib.Nat.{sub-zero, add-zero}
use native.Mathlib.Numerals.{add-one}
use native.Mathlib.Omega.{arith}
use lib.ListN.{length, get_or, drop, drop_of_length-le}
use lib.Seq.{drop-cons}
use Rattle.rules.specs.Test.{same, choose}
use Rattle.rules.specs.Word.{bit, common, single}
use Rattle.rules.specs.Lists.{list_over}
use Rattle.rules.specs.Domain.{Actions, condition, persistence, adds_of}
use Rattle.rules.specs.Layer.{label_in}
use Rattle.rules.specs.Plan.{Support, takes, order, support, Covered, covered, uncovered, cover_from, cover}
use Rattle.rules.proofs.Tests.{holds_or, same_at, same_of, same_not, below_not, is_fails, fails_at, choose_held, choose_failed}
use Rattle.rules.proofs.Words.{single_has}
use Rattle.rules.proofs.Layers.{length_list_over, get_d_list_over}
use Rattle.plan.specs.Search.{took}
use Rattle.plan.proofs.Turns.{took_none, takes_effect, takes_kept}

-- the propositions from p on
unfoldable pub resting : Actions → List ℕ → List ℕ → ℕ → ℕ → List ℕ → Covered
resting A labels wanted p marks needed = cover_from A labels wanted (A.props - p) p marks needed

-- the propositions after p, n of them, once the search for p ended
unfoldable pub after : Actions → List ℕ → List ℕ → ℕ → ℕ → Support → Covered
after A labels wanted n p s = choose (same s.left 0) (cover_from A labels wanted n (suc p) s.marks s.needed) uncovered

-- the search for p from place k on, then the propositions after p
unfoldable pub searching : Actions → List ℕ → List ℕ → ℕ → ℕ → Support → Covered
searching A labels wanted p k s = after A labels wanted (A.props - suc p) p (support A labels p (drop k (order A p)) s)

order_length : (A : Actions) (p : ℕ) → length (order A p) ≡ suc A.effects
unfolding order
order_length A p = ap suc (length_list_over A.effects (λ a. a))

module _ (A : Actions) (labels wanted : List ℕ) where
  rest_open : (p marks : ℕ) (needed : List ℕ) → p < A.props
      → resting A labels wanted p marks needed
      ≡ searching A labels wanted p 0 (record { left = label_in wanted p; marks = marks; needed = needed })
  unfolding resting searching after cover_from
  rest_open p marks needed l = let e : A.props - p ≡ suc (A.props - suc p) = omega arith in rw e refl

  pub rest_end : (p marks : ℕ) (needed : List ℕ) → A.props ≤ p → resting A labels wanted p marks needed ≡ covered marks needed
  unfolding resting cover_from
  rest_end p marks needed l = let e : A.props - p ≡ 0 = omega arith in rw e refl

  stays : (p : ℕ) (vs : List ℕ) (s : Support) → s.left ≡ 0 → support A labels p vs s ≡ s
  unfolding support choose
  stays p [] s e = refl
  stays p (v ∷ vs) s e = simp (same_of e)

  -- left from inside, where no state is left uncovered
  pub search_clear : (p k : ℕ) (s : Support) → s.left ≡ 0
      → searching A labels wanted p k s ≡ resting A labels wanted (p + 1) s.marks s.needed
  unfolding searching after resting choose
  search_clear p k s e =
      ap (after A labels wanted (A.props - suc p) p) (stays p (drop k (order A p)) s e) ∙ simp (same_of e, add-one)

  -- past all vertices, with states left
  pub search_end : (p k : ℕ) (s : Support) → A.effects < k → (s.left ≡ 0 → ⊥) → searching A labels wanted p k s ≡ uncovered
  unfolding searching after support choose
  search_end p k s l e =
      let long : length (order A p) ≤ k = omega (arith, order_length A p) in
      ap (λ (vs : List ℕ). after A labels wanted (A.props - suc p) p (support A labels p vs s)) (drop_of_length-le (order A p) long)
      ∙ simp (same_not e)

  -- one vertex on
  search_on : (p k v : ℕ) (s t : Support) → get_or (order A p) k 0 ≡ v → k ≤ A.effects → (s.left ≡ 0 → ⊥)
      → t ≡ choose (bit p (adds_of A v)) (takes A labels v s) s → searching A labels wanted p k s ≡ searching A labels wanted p (k + 1) t
  unfolding searching support choose
  search_on p k v s t h l e q =
      ap (λ (vs : List ℕ). after A labels wanted (A.props - suc p) p (support A labels p vs s)) (drop-cons (order A p) k 0 (omega (arith, order_length A p)))
      ∙ ap (λ (x : Support). after A labels wanted (A.props - suc p) p x) (skip (same_not e))
      ∙ ap₂ (λ (x : Support) (j : ℕ). after A labels wanted (A.props - suc p) p (support A labels p (drop j (order A p)) x))
      (ap (λ (x : ℕ). choose (bit p (adds_of A x)) (takes A labels x s) s) h ∙ sym q) (sym (add-one k))
    where
      skip : same s.left 0 ≡ false
          → support A labels p (get_or (order A p) k 0 ∷ drop (suc k) (order A p)) s
          ≡ support A labels p (drop (suc k) (order A p))
          (choose (bit p (adds_of A (get_or (order A p) k 0))) (takes A labels (get_or (order A p) k 0) s) s)
      skip f = ap (λ (b : Bool). choose b s (support A labels p (drop (suc k) (order A p))
          (choose (bit p (adds_of A (get_or (order A p) k 0))) (takes A labels (get_or (order A p) k 0) s) s))) f

  -- 'persistence first'
  order_first : (p : ℕ) → get_or (order A p) 0 0 ≡ A.effects + p
  unfolding order persistence
  order_first p = refl

  -- then the effects 'in rising number'
  order_then : (p a : ℕ) → a < A.effects → get_or (order A p) (a + 1) 0 ≡ a
  unfolding order
  order_then p a h = rw add-one (get_d_list_over (λ a. a) h)

  kept_adds : (p : ℕ) → So (bit p (adds_of A (A.effects + p)))
  unfolding adds_of
  kept_adds p =
      let e : A.effects + p - A.effects ≡ p = omega arith in
      ap (bit p) (choose_failed _ _ (is_fails (below_not (omega arith))) ∙ ap single e) ∙ single_has p refl

  -- the persistence of p takes what it can
  pub search_kept : (p : ℕ) (s : Support) → length s.needed ≡ A.props
      → searching A labels wanted p 0 s ≡ searching A labels wanted p 1 (took (label_in labels (A.effects + p)) (single p) 0 s)
  search_kept p s long = ⊎_elim
      (λ e.
      search_clear p 0 s (same_at e) ∙ sym (search_clear p 1 s (same_at e))
      ∙ ap (searching A labels wanted p 1) (sym (took_none _ _ _ s (ap (λ (x : ℕ). common x (label_in labels (A.effects + p))) (same_at e)))))
      (λ e. search_on p 0 (A.effects + p) s _ (order_first p) (omega arith) (λ q. fails_at e (same_of q))
      (sym (choose_held _ (kept_adds p) ∙ takes_kept A labels s long p)))
      (holds_or (same s.left 0))

  -- an effect that adds p takes what it can
  pub search_effect : (p a : ℕ) (s : Support) → length s.needed ≡ A.props → a < A.effects → (s.left ≡ 0 → ⊥) → So (bit p (adds_of A a))
      → searching A labels wanted p (a + 1) s ≡ searching A labels wanted p (a + 1 + 1) (took (label_in labels a) (condition A a) (single (A.owner a)) s)
  search_effect p a s long h e t =
      search_on p (a + 1) a s _ (order_then p a h) (omega arith) e (sym (choose_held _ t ∙ takes_effect A labels s long a h))

  -- one that does not is passed over
  pass_one : (p a : ℕ) (s : Support) → (a < A.effects → bit p (adds_of A a) ≡ false)
      → searching A labels wanted p (a + 1) s ≡ searching A labels wanted p (a + 1 + 1) s
  unfolding searching choose
  pass_one p a s h = by_cases (dec_lt a A.effects)
      (λ l. ⊎_elim
      (λ e. search_clear p (a + 1) s (same_at e) ∙ sym (search_clear p (a + 1 + 1) s (same_at e)))
      (λ e. search_on p (a + 1) a s s (order_then p a l) (omega arith) (λ q. fails_at e (same_of q))
      (sym (ap (λ (b : Bool). choose b (takes A labels a s) s) (h l))))
      (holds_or (same s.left 0)))
      (λ l.
      let one : length (order A p) ≤ a + 1 = omega (arith, order_length A p) in
      let two : length (order A p) ≤ a + 1 + 1 = omega (arith, order_length A p) in
      ap (λ (vs : List ℕ). after A labels wanted (A.props - suc p) p (support A labels p vs s))
      (drop_of_length-le (order A p) one ∙ sym (drop_of_length-le (order A p) two)))

  pass_over : (d p a : ℕ) (s : Support) → ((j : ℕ) → a ≤ j → j < a + d → j < A.effects → bit p (adds_of A j) ≡ false)
      → searching A labels wanted p (a + 1) s ≡ searching A labels wanted p (a + d + 1) s
  pass_over zero p a s h = ap (λ (x : ℕ). searching A labels wanted p (x + 1) s) (sym (add-zero a))
  pass_over (suc d) p a s h =
      let e : a + 1 + d ≡ a + suc d = omega arith in
      pass_one p a s (h a (omega arith) (omega arith))
      ∙ pass_over d p (a + 1) s (λ j l m n. h j (omega arith) (omega arith) n)
      ∙ ap (λ (x : ℕ). searching A labels wanted p (x + 1) s) e

  -- up to effect b
  pub pass_to : (p a b : ℕ) (s : Support) → a ≤ b → ((j : ℕ) → a ≤ j → j < b → j < A.effects → bit p (adds_of A j) ≡ false)
      → searching A labels wanted p (a + 1) s ≡ searching A labels wanted p (b + 1) s
  pass_to p a b s l h =
      let e : a + (b - a) ≡ b = omega arith in
      pass_over (b - a) p a s (λ j m n k. h j m (omega arith) k) ∙ ap (λ (x : ℕ). searching A labels wanted p (x + 1) s) e

  -- propositions that are not wanted are passed over
  rest_over : (d p marks : ℕ) (needed : List ℕ) → ((q : ℕ) → p ≤ q → q < p + d → q < A.props → label_in wanted q ≡ 0)
      → resting A labels wanted p marks needed ≡ resting A labels wanted (p + d) marks needed
  rest_over zero p marks needed h = ap (λ (x : ℕ). resting A labels wanted x marks needed) (sym (add-zero p))
  rest_over (suc d) p marks needed h =
      let e : p + 1 + d ≡ p + suc d = omega arith in
      by_cases (dec_lt p A.props)
      (λ l. rest_open p marks needed l ∙ search_clear p 0 _ (h p (omega arith) (omega arith) l))
      (λ l. rest_end p marks needed (omega arith) ∙ sym (rest_end (p + 1) marks needed (omega arith)))
      ∙ rest_over d (p + 1) marks needed (λ q l m n. h q (omega arith) (omega arith) n)
      ∙ ap (λ (x : ℕ). resting A labels wanted x marks needed) e

  pub rest_to : (p r marks : ℕ) (needed : List ℕ) → p ≤ r → ((q : ℕ) → p ≤ q → q < r → q < A.props → label_in wanted q ≡ 0)
      → resting A labels wanted p marks needed ≡ resting A labels wanted r marks needed
  rest_to p r marks needed l h =
      let e : p + (r - p) ≡ r = omega arith in
      rest_over (r - p) p marks needed (λ q m n k. h q m (omega arith) k) ∙ ap (λ (x : ℕ). resting A labels wanted x marks needed) e

  -- p is opened, and its persistence takes what it can
  pub rest_kept : (p marks : ℕ) (needed : List ℕ) → p < A.props → length needed ≡ A.props
      → resting A labels wanted p marks needed
      ≡ searching A labels wanted p 1 (took (label_in labels (A.effects + p)) (single p) 0 (record { left = label_in wanted p; marks = marks; needed = needed }))
  rest_kept p marks needed l long = rest_open p marks needed l ∙ search_kept p _ long

  -- a layer begins with nothing needed below
  pub rest_all : (needed : List ℕ) → needed ≡ list_over A.props (λ q. 0) → cover A labels wanted ≡ resting A labels wanted 0 0 needed
  unfolding cover resting
  rest_all needed e =
      ap (λ (l : List ℕ). cover_from A labels wanted A.props 0 0 l) (sym e)
      ∙ ap (λ (n : ℕ). cover_from A labels wanted n 0 0 needed) (sym (sub-zero A.props))
