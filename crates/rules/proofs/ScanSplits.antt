-- The scan of a pair over effects and persistences apart: of the persistences only those of p and of q are looked at, each behind the effects.
-- Assumes nothing.
use mathlib.Core.Path.{◌≡◌, refl, sym, ap, ap₂, ◌∙◌}
use mathlib.Core.Bool.{Bool, true, false, So}
use mathlib.Core.Logic.{⊎_elim}
use mathlib.Core.List.{List}
use Prim.Native.Nat.{ℕ, zero, suc, ◌+◌, ◌-◌, ◌^◌, ◌≤◌, ◌<◌}
use native.Mathlib.Nat.{add-zero, add-suc, eq-or-lt_of_le}
use native.Mathlib.Omega.{arith}
use Rattle.rules.specs.Test.{◌and◌, fails, same, choose}
use Rattle.rules.specs.Word.{bit, common, without, single}
use Rattle.rules.specs.Domain.{Actions, persistence, adds_of}
use Rattle.rules.specs.Layer.{label_in, free_in}
use Rattle.rules.specs.Scan.{Scan, scan_at, look, scan_over, scan_where, scan_of, look_ones, look_with, look_twos, scanned}
use Rattle.rules.proofs.Tests.{choose_held, same_of, same_at, same_not}
use Rattle.rules.proofs.Words.{bit_common, bit_single, bit_above}
use Rattle.rules.proofs.Domains.{adds_effect, adds_persistence}
use Rattle.rules.proofs.Togethers.{free_turn}
use Rattle.rules.proofs.Scans.{Adders, where_alike, where_nobody, out_bit, out_other}

-- ---- the turns of a + b indices: those of the first a, then those of the others

over_append : (a b : ℕ) (f : ℕ → Scan → Scan) (s : Scan) → scan_over (a + b) f s ≡ scan_over b (λ i. f (a + i)) (scan_over a f s)
unfolding scan_over
over_append a zero f s = ap (λ (x : ℕ). scan_over x f s) (add-zero a)
over_append a (suc b) f s = ap (λ (x : ℕ). scan_over x f s) (add-suc a b) ∙ ap (f (a + b)) (over_append a b f s)

where_append : (a b : ℕ) (c : ℕ → Bool) (f : ℕ → Scan → Scan) (s : Scan)
    → scan_where (a + b) c f s ≡ scan_where b (λ i. c (a + i)) (λ i. f (a + i)) (scan_where a c f s)
unfolding scan_where
where_append a b c f s = over_append a b (λ i s. choose (c i) (f i s) s) s

-- a test that holds at p only
where_one : (n p : ℕ) (c : ℕ → Bool) (f : ℕ → Scan → Scan) (s : Scan) → p < n → ((i : ℕ) → i < n → c i ≡ same p i) → scan_where n c f s ≡ f p s
unfolding scan_where scan_over choose
where_one zero p c f s h is = absurd (omega arith)
where_one (suc n) p c f s h is = ⊎_elim
    (λ (e : p ≡ n).
    choose_held _ (is n (omega arith) ∙ same_of e)
    ∙ ap₂ (λ (i : ℕ) (r : Scan). f i r) (sym e) (where_nobody n c f s (λ i l. is i (omega arith) ∙ same_not (λ q. omega arith))))
    (λ (l : p < n).
    ap (λ (b : Bool). choose b (f n (scan_where n c f s)) (scan_where n c f s)) (is n (omega arith) ∙ same_not (λ q. omega arith))
    ∙ where_one n p c f s l (λ i g. is i (omega arith)))
    (eq-or-lt_of_le (omega arith))

-- the members of a set that has none from n on
pub of_wider : {n m : ℕ} {set : ℕ} (f : ℕ → Scan → Scan) (s : Scan) → n ≤ m → set < 2 ^ n → scan_of m set f s ≡ scan_of n set f s
unfolding scan_of
of_wider {n} {m} {set} f s h small =
    let e : n + (m - n) ≡ m = omega arith in
    ap (λ (x : ℕ). scan_where x (λ i. bit i set) f s) (sym e) ∙ where_append n (m - n) (λ i. bit i set) f s
    ∙ where_nobody (m - n) (λ i. bit (n + i) set) (λ i. f (n + i)) (scan_where n (λ i. bit i set) f s) (λ i l. bit_above small (omega arith))

-- how many looks there are with one more, whatever it takes away
pub looked_more : (w : ℕ) (s : Scan) → (look w s).looked ≡ choose (same s.left 0) s.looked (suc s.looked)
unfolding look choose
looked_more w s = go (same s.left 0)
  where
    go : (b : Bool) → (choose b s (scan_at (without s.left w) (suc s.looked))).looked ≡ choose b s.looked (suc s.looked)
    go true = refl
    go false = refl

none : (b : Bool) → (b and false) ≡ false
unfolding ◌and◌
none true = refl
none false = refl

-- ---- over the effects of these actions, of which `lower` add p and `upper` add q

module _ (A : Actions) (a : List ℕ) {p q lower upper : ℕ} (hp : p < A.props) (hq : q < A.props) (differ : p ≡ q → ⊥)
    (lowers : Adders A.effects A.add p lower) (uppers : Adders A.effects A.add q upper) where
  abbrev free : ℕ → ℕ → ℕ
  free = free_in (A.effects + A.props) a

  -- the row of a vertex that is not the persistence of q
  with_split : (v : ℕ) (s : Scan) → (v ≡ A.effects + q → ⊥) → look_with (A.effects + A.props) (adds_of A) a q v s
      ≡ look (free v (A.effects + q)) (scan_of A.effects (without upper (single v)) (λ w. look (free v w)) s)
  unfolding look_with scan_of persistence ◌and◌ fails
  with_split v s other =
      where_append A.effects A.props _ _ s
      ∙ where_one A.props q _ _ _ hq last
      ∙ ap (look (free v (A.effects + q))) (where_alike A.effects _ _ _ _ s first (λ w l r. refl))
    where
      last : (k : ℕ) → k < A.props → (fails (same v (A.effects + k)) and bit q (adds_of A (A.effects + k))) ≡ same q k
      last k l = ap (λ (x : ℕ). fails (same v (A.effects + k)) and bit q x) (adds_persistence A k)
          ∙ ap (λ (b : Bool). fails (same v (A.effects + k)) and b) (bit_single q k) ∙ go (same q k) refl
        where
          go : (b : Bool) → same q k ≡ b → (fails (same v (A.effects + k)) and b) ≡ b
          go true e = ap (λ (b : Bool). fails b and true) (same_not (λ g. other (g ∙ ap (λ (x : ℕ). A.effects + x) (sym (same_at e)))))
          go false e = none (fails (same v (A.effects + k)))

      first : (w : ℕ) → w < A.effects → (fails (same v w) and bit q (adds_of A w)) ≡ bit w (without upper (single v))
      first w l = ap (λ (x : ℕ). fails (same v w) and bit q x) (adds_effect A l) ∙ ap (λ (b : Bool). fails (same v w) and b) (sym (uppers.are w l)) ∙ sym (out_bit upper v w)

  -- that of the persistence of p
  last_split : (s : Scan) → look_with (A.effects + A.props) (adds_of A) a q (A.effects + p) s
      ≡ look (free (A.effects + p) (A.effects + q)) (scan_of A.effects upper (λ w. look (free w (A.effects + p))) s)
  unfolding scan_of
  last_split s =
      with_split (A.effects + p) s (λ e. differ (omega arith))
      ∙ ap (look (free (A.effects + p) (A.effects + q)))
      (where_alike A.effects _ _ _ _ s (λ w l. out_other upper (A.effects + p) w (λ e. omega arith))
      (λ w l r. ap (λ (x : ℕ). look x r) (free_turn (A.effects + A.props) a (A.effects + p) w)))

  twos_split : (s : Scan) → look_twos (A.effects + A.props) (adds_of A) a p q s
      ≡ look_with (A.effects + A.props) (adds_of A) a q (A.effects + p) (scan_of A.effects lower (λ v. look_with (A.effects + A.props) (adds_of A) a q v) s)
  unfolding look_twos scan_of persistence
  twos_split s =
      where_append A.effects A.props _ _ s
      ∙ where_one A.props p _ _ _ hp (λ k l. ap (bit p) (adds_persistence A k) ∙ bit_single p k)
      ∙ ap (look_with (A.effects + A.props) (adds_of A) a q (A.effects + p))
      (where_alike A.effects _ _ _ _ s (λ v l. ap (bit p) (adds_effect A l) ∙ sym (lowers.are v l)) (λ v l r. refl))

  ones_split : (s : Scan) → look_ones (A.effects + A.props) (adds_of A) a p q s ≡ scan_of A.effects (common lower upper) (λ v. look (label_in a v)) s
  unfolding look_ones scan_of persistence ◌and◌
  ones_split s =
      where_append A.effects A.props _ _ s
      ∙ where_nobody A.props _ _ _ (λ k l. ap (λ (x : ℕ). bit p x and bit q x) (adds_persistence A k) ∙ ap₂ ◌and◌ (bit_single p k) (bit_single q k) ∙ apart k)
      ∙ where_alike A.effects _ _ _ _ s
      (λ v l. ap (λ (x : ℕ). bit p x and bit q x) (adds_effect A l) ∙ sym (bit_common v lower upper ∙ ap₂ ◌and◌ (lowers.are v l) (uppers.are v l))) (λ v l r. refl)
    where
      apart : (k : ℕ) → (same p k and same q k) ≡ false
      apart k = go (same p k) (same q k) (λ s t. differ (same_at s ∙ sym (same_at t)))
        where
          go : (b c : Bool) → (So b → So c → ⊥) → (b and c) ≡ false
          go true true h = absurd (h refl refl)
          go true false h = refl
          go false c h = refl

  -- the whole scan: the effects that add both, the rows of the effects that add p, the row of its persistence
  pub scanned_split : (both : ℕ) → scanned (A.effects + A.props) (adds_of A) a both p q
      ≡ look (free (A.effects + p) (A.effects + q))
      (scan_of A.effects upper (λ w. look (free w (A.effects + p)))
      (scan_of A.effects lower (λ v s. look (free v (A.effects + q)) (scan_of A.effects (without upper (single v)) (λ w. look (free v w)) s))
      (scan_of A.effects (common lower upper) (λ v. look (label_in a v)) (scan_at both 0))))
  unfolding scanned scan_of
  scanned_split both =
      ap (look_twos (A.effects + A.props) (adds_of A) a p q) (ones_split (scan_at both 0))
      ∙ twos_split _ ∙ last_split _
      ∙ ap (λ (s : Scan). look (free (A.effects + p) (A.effects + q)) (scan_of A.effects upper (λ w. look (free w (A.effects + p))) s))
      (where_alike A.effects _ _ _ _ _ (λ v l. refl) (λ v l r. with_split v r (λ e. omega arith)))
