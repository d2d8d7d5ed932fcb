-- One vertex in the search for support: what it takes, by the code and by the rules, and which propositions are needed below.
-- Assumes nothing.
use mathlib.Core.Path.{◌≡◌, refl, sym, ap, ap₂, subst, ◌∙◌}
use mathlib.Core.List.{List}
use mathlib.Core.Bool.{Bool, true, false}
use mathlib.Core.Logic.{⊎_elim}
use Prim.Native.Nat.{ℕ, ◌+◌, ◌-◌, ◌^◌, ◌<◌}
use native.Mathlib.Omega.{arith}
use lib.Bits.{bit_xor, and_zero_r, or_zero_r, xor_zero_r}
use lib.ListN.{length, get_or, set, length-set}
use lib.Seq.{ext_get_or, get_or-set_same, get_or-set_other}
use Rattle.rules.specs.Test.{◌and◌, ◌or◌, fails, same, choose}
use Rattle.rules.specs.Word.{bit, common, union, without, single}
use Rattle.rules.specs.Over.{keep}
use Rattle.rules.specs.Lists.{list_over}
use Rattle.rules.specs.Layer.{label_in}
use Rattle.rules.specs.Domain.{Actions, condition, needs_of}
use Rattle.rules.specs.Plan.{Support, takes}
use Rattle.rules.proofs.Tests.{holds_or, same_of, same_at, same_not, below_of, below_not, fails_at, is_fails, choose_held, choose_failed}
use Rattle.rules.proofs.Words.{bit_union, bit_single, union_lt}
use Rattle.rules.proofs.Layers.{length_list_over, get_d_list_over}
use Rattle.words.proofs.Spreads.{spread_nothing}
use Rattle.plan.specs.Search.{Live, held, took, Turned}
use Rattle.plan.specs.declared.layer.Took.{Took}

pub support_path : {l m l' m' : ℕ} {b b' : List ℕ} → l ≡ l' → m ≡ m' → b ≡ b'
    → ◌≡◌ {A = Support} (record { left = l; marks = m; needed = b }) (record { left = l'; marks = m'; needed = b' })
support_path p q r = λ i. record { left = p i; marks = q i; needed = r i }

-- a word stored at p is joined to what the set of p alone names
pub one_spread : (row : List ℕ) (p t x : ℕ) → p < length row → x ≡ union (get_or row p 0) t
    → set row p x ≡ list_over (length row) (λ q. union (label_in row q) (keep (bit q (single p)) t))
unfolding keep choose label_in
one_spread row p t x h e =
    ext_get_or 0 _ _ (length-set row p x ∙ sym (length_list_over (length row) _)) (λ q l.
    let m : q < length row = omega (arith, length-set row p x) in
    ⊎_elim
    (λ s.
    ap (λ (i : ℕ). get_or (set row p x) i 0) (same_at s) ∙ get_or-set_same row p x 0 h ∙ e ∙ ap (λ (i : ℕ). union (get_or row i 0) t) (sym (same_at s))
    ∙ ap (λ (b : Bool). union (get_or row q 0) (choose b t 0)) (sym (bit_single q p ∙ s)))
    (λ s.
    get_or-set_other row p q x 0 (λ i. fails_at s (same_of i)) ∙ sym (or_zero_r (get_or row q 0))
    ∙ ap (λ (b : Bool). union (get_or row q 0) (choose b t 0)) (sym (bit_single q p ∙ same_not (λ i. fails_at s (same_of i)))))
    (holds_or (same q p))
    ∙ sym (get_d_list_over _ m))

-- what is needed of no proposition of the set, nor before, is not needed
neither : (a b : Bool) → (a or b) ≡ false → (a ≡ false) × (b ≡ false)
unfolding ◌or◌
neither true b e = (e, cc)
neither false b e = (refl, e)

pub live_more : {live live' needs : ℕ} {row row' : List ℕ} (t : ℕ) → Live live row → needs < 2 ^ length row → live' ≡ union live needs
    → row' ≡ list_over (length row) (λ q. union (label_in row q) (keep (bit q needs) t)) → Live live' row'
unfolding keep choose label_in
live_more {live} {live'} {needs} {row} {row'} t l h e f =
    let long : length row' ≡ length row = ap length f ∙ length_list_over (length row) _ in
    record {
      inside = subst (λ (x : ℕ). live' < 2 ^ x) (sym long) (subst (λ (x : ℕ). x < 2 ^ length row) (sym e) (union_lt (length row) l.inside h));
      rest = λ q m b.
          let k : q < length row = omega arith in
          let (c, d) = neither (bit q live) (bit q needs) (sym (ap (bit q) e ∙ bit_union q live needs) ∙ b) in
          ap (λ (x : List ℕ). get_or x q 0) f ∙ get_d_list_over _ k
          ∙ ap₂ (λ (x : ℕ) (y : Bool). union x (choose y t 0)) (l.rest q k c) d;
    }

-- nothing is taken: nothing changes
without_none : (a b : ℕ) → b ≡ 0 → a ≡ without a b
without_none a b e = sym (ap (without a) e ∙ ap (λ (x : ℕ). bit_xor a x) (and_zero_r a) ∙ xor_zero_r a)

pub took_none : (label needs mark : ℕ) (s : Support) → common s.left label ≡ 0 → took label needs mark s ≡ s
unfolding took choose
took_none label needs mark s e = sym (support_path (without_none s.left _ e)
    (sym (ap (λ (b : Bool). choose b s.marks (union s.marks mark)) (same_of e)))
    (spread_nothing (common s.left label) needs s.needed e))

pub turned_none : {label needs mark : ℕ} {s : Took} {row : List ℕ} → Live s.live row → common s.left label ≡ 0 → Turned label needs mark s row s row
turned_none {label} {needs} {mark} {s} {row} l e = record { is = sym (took_none label needs mark (held s row) e); live = l }

-- something is taken: the mark is made
pub turned_some : {label needs mark : ℕ} {s r : Took} {row row' : List ℕ} → Live s.live row → needs < 2 ^ length row → (common s.left label ≡ 0 → ⊥)
    → r.left ≡ without s.left (common s.left label) → r.marks ≡ union s.marks mark → r.live ≡ union s.live needs
    → row' ≡ list_over (length row) (λ q. union (label_in row q) (keep (bit q needs) (common s.left label))) → Turned label needs mark s row r row'
unfolding took choose
turned_some {label} {needs} {mark} {s} {r} {row} {row'} l h e f g k m = record {
  is = support_path f
      (g ∙ sym (ap (λ (b : Bool). choose b s.marks (union s.marks mark)) (same_not e)))
      m;
  live = live_more _ l h k m;
}

-- ---- as the rules have it

module _ (A : Actions) (labels : List ℕ) (s : Support) (long : length s.needed ≡ A.props) where
  marked : (b c : Bool) (m x : ℕ) → b ≡ true → choose (b and fails c) x m ≡ choose c m x
  unfolding choose ◌and◌ fails
  marked true true m x e = refl
  marked true false m x e = refl
  marked false c m x e = cc

  unmarked : (b c : Bool) (m x : ℕ) → b ≡ false → choose (b and fails c) x m ≡ choose c m (union m 0)
  unfolding choose ◌and◌
  unmarked true c m x e = cc
  unmarked false true m x e = refl
  unmarked false false m x e = sym (or_zero_r m)

  row_is : (v set : ℕ) → needs_of A v ≡ set
      → list_over A.props (λ q. union (label_in s.needed q) (keep (bit q (needs_of A v)) (common s.left (label_in labels v))))
      ≡ list_over (length s.needed) (λ q. union (label_in s.needed q) (keep (bit q set) (common s.left (label_in labels v))))
  row_is v set e =
      ap₂ (λ (n x : ℕ). list_over n (λ q. union (label_in s.needed q) (keep (bit q x) (common s.left (label_in labels v))))) (sym long) e

  -- an effect, whose action is marked
  pub takes_effect : (a : ℕ) → a < A.effects → takes A labels a s ≡ took (label_in labels a) (condition A a) (single (A.owner a)) s
  unfolding takes took needs_of choose
  takes_effect a h = support_path refl (marked _ (same (common s.left (label_in labels a)) 0) s.marks _ (below_of h))
      (row_is a (condition A a) (choose_held _ (below_of h)))

  -- a persistence
  pub takes_kept : (p : ℕ) → takes A labels (A.effects + p) s ≡ took (label_in labels (A.effects + p)) (single p) 0 s
  unfolding takes took needs_of choose
  takes_kept p =
      let e : A.effects + p - A.effects ≡ p = omega arith in
      let b = below_not {i = A.effects + p} {j = A.effects} (omega arith) in
      support_path refl (unmarked _ (same (common s.left (label_in labels (A.effects + p))) 0) s.marks _ b)
      (row_is (A.effects + p) (single p) (choose_failed _ _ (is_fails b) ∙ ap single e))
