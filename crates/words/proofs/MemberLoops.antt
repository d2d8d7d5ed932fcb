-- Loops over the members of a set: what they join or share, for one word and for the words of a row.
-- Assumes nothing.
use Prim.Native.Nat.{ℕ, ◌-◌, ◌^◌, ◌≤◌, ◌<◌}
use mathlib.Core.Path.{◌≡◌, refl, sym, ap, ap₂, subst, ◌∙◌}
use mathlib.Core.Bool.{Bool, true, false, So}
use mathlib.Core.Logic.{⊎_elim}
use mathlib.Core.List.{List}
use native.Mathlib.Omega.{arith}
use native.Mathlib.Nat.{lt_of_lt_of_le}
use lib.Bits.{bit_and, and_le_r, or_zero_r}
use lib.Count.{count_trailing_zeros}
use lib.ListN.{length, get_or}
use lib.Pow.{pow_mono}
use Rattle.rules.specs.Test.{◌and◌, ◌or◌, same, choose}
use Rattle.rules.specs.Word.{bit, common, union, without, single}
use Rattle.rules.specs.Over.{join_of, meet_of}
use Rattle.rules.specs.Lists.{list_over}
use Rattle.words.specs.Width.{word_width}
use Rattle.rules.proofs.Words.{bit_union, bit_common, bit_below, no_bit_zero, ext_all, lowest_has, without_lowest, without_lt}
use Rattle.rules.proofs.Tests.{test_eq, and_assoc, and_of, and_left, and_right, choose_failed, holds_or, same_at}
use Rattle.rules.proofs.Members.{join_empty, join_pick, meet_of_at, meet_of_of, meet_empty, meet_pick}
use Rattle.rules.proofs.Layers.{length_list_over, get_d_list_over, list_over_eq}
use Rattle.words.proofs.Writes.{list_all}

-- ---- words joined and cut, by their bits

or_regroup : (a b c : Bool) → ((a or b) or c) ≡ (a or (b or c))
unfolding ◌or◌
or_regroup true b c = refl
or_regroup false b c = refl

pub union_assoc : (a b c : ℕ) → union (union a b) c ≡ union a (union b c)
union_assoc a b c = ext_all (λ s.
    bit_union s (union a b) c ∙ ap (λ (x : Bool). x or bit s c) (bit_union s a b) ∙ or_regroup (bit s a) (bit s b) (bit s c)
    ∙ sym (bit_union s a (union b c) ∙ ap (λ (x : Bool). bit s a or x) (bit_union s b c)))

pub common_assoc : (a b c : ℕ) → common (common a b) c ≡ common a (common b c)
common_assoc a b c = ext_all (λ s.
    bit_common s (common a b) c ∙ ap (λ (x : Bool). x and bit s c) (bit_common s a b) ∙ and_assoc (bit s a) (bit s b) (bit s c)
    ∙ sym (bit_common s a (common b c) ∙ ap (λ (x : Bool). bit s a and x) (bit_common s b c)))

-- ---- the lowest member of a set

module _ (n set : ℕ) (few : n ≤ word_width) (inside : set < 2 ^ n) (some : 0 < set) where
  word : set < 2 ^ word_width
  word = lt_of_lt_of_le inside (pow_mono few)

  pub lowest_in : So (bit (count_trailing_zeros word_width set) set)
  lowest_in = lowest_has word_width word (λ e. omega arith)

  pub lowest_lt : count_trailing_zeros word_width set < n
  lowest_lt = bit_below inside lowest_in

-- `set & (set - 1)`
pub others_is : (set : ℕ) → set < 2 ^ word_width → 0 < set → (bit_and set (set - 1)
    ≡ without set (single (count_trailing_zeros word_width set))) × (bit_and set (set - 1) < set)
others_is set h some =
    (without_lowest word_width h (λ e. omega arith), omega (arith, and_le_r set (set - 1)))

-- ---- a loop over the members: w with what they join, while some are left

pub record Members (f : ℕ → ℕ) (w n set₀ left joined : ℕ) : Type 0 where
  pub inside : left < 2 ^ n
  pub is : union joined (join_of n left f) ≡ union w (join_of n set₀ f)

pub members_none : {f : ℕ → ℕ} {w n set : ℕ} → set < 2 ^ n → Members f w n set set w
members_none h = record { inside = h; is = refl }

pub members_more : {f : ℕ → ℕ} {w n set₀ left joined b r left' : ℕ} → Members f w n set₀ left joined → n ≤ word_width → 0 < left
    → b ≡ f (count_trailing_zeros word_width left)
    → r ≡ union joined b → left' ≡ without left (single (count_trailing_zeros word_width left)) → Members f w n set₀ left' r
members_more {f} {w} {n} {set₀} {left} {joined} {b} {r} {left'} m few some e q l = record {
  inside = subst (λ (x : ℕ). x < 2 ^ n) (sym l) (without_lt n _ m.inside);
  is = ap₂ (λ (x y : ℕ). union x (join_of n y f)) (q ∙ ap (union joined) e) l
      ∙ union_assoc joined (f (count_trailing_zeros word_width left)) (join_of n (without left (single (count_trailing_zeros word_width left))) f)
      ∙ ap (union joined) (sym (join_pick left f (lowest_lt n left few m.inside some) (lowest_in n left few
      m.inside some)))
      ∙ m.is;
}

pub members_done : {f : ℕ → ℕ} {w n set₀ left joined : ℕ} → Members f w n set₀ left joined → left ≤ 0 → joined ≡ union w (join_of n set₀ f)
members_done {f} {w} {n} {set₀} {left} {joined} m h =
    let e : left ≡ 0 = omega arith in
    sym (or_zero_r joined) ∙ ap (union joined) (sym (join_empty n f)) ∙ ap (λ (x : ℕ). union joined (join_of n x f)) (sym e) ∙ m.is

-- the same of what all have in common
pub record Shares (f : ℕ → ℕ) (w n set₀ left met : ℕ) : Type 0 where
  pub inside : left < 2 ^ n
  pub is : common met (meet_of n left f w) ≡ meet_of n set₀ f w
  pub part : (s : ℕ) → So (bit s met) → So (bit s w)

pub shares_none : {f : ℕ → ℕ} {w n set : ℕ} → set < 2 ^ n → Shares f w n set set w
shares_none {f} {w} {n} {set} h = record {
  inside = h;
  is = ext_all (λ s. bit_common s w (meet_of n set f w) ∙ test_eq (λ t. and_right _ t) (λ t. and_of (meet_of_at s set w f t).0 t));
  part = λ s t. t;
}

pub shares_more : {f : ℕ → ℕ} {w n set₀ left met b r left' : ℕ} → Shares f w n set₀ left met → n ≤ word_width → 0 < left → b ≡ f (count_trailing_zeros word_width left)
    → r ≡ common met b → left' ≡ without left (single (count_trailing_zeros word_width left)) → Shares f w n set₀ left' r
shares_more {f} {w} {n} {set₀} {left} {met} {b} {r} {left'} m few some e q l = record {
  inside = subst (λ (x : ℕ). x < 2 ^ n) (sym l) (without_lt n _ m.inside);
  is = ap₂ (λ (x y : ℕ). common x (meet_of n y f w)) (q ∙ ap (common met) e) l
      ∙ common_assoc met (f (count_trailing_zeros word_width left)) (meet_of n (without left (single (count_trailing_zeros word_width left))) f w)
      ∙ ap (common met) (sym (meet_pick left w f (lowest_lt n left few m.inside some) (lowest_in n left few
      m.inside some)))
      ∙ m.is;
  part = λ s t. m.part s (and_left _ (sym (ap (bit s) q ∙ bit_common s met b) ∙ t));
}

pub shares_done : {f : ℕ → ℕ} {w n set₀ left met : ℕ} → Shares f w n set₀ left met → left ≤ 0 → met ≡ meet_of n set₀ f w
shares_done {f} {w} {n} {set₀} {left} {met} m h =
    let e : left ≡ 0 = omega arith in
    ext_all (λ s. test_eq (λ t. bit_common s met w ∙ and_of t (m.part s t)) (λ t. and_left _ (sym (bit_common s met w) ∙ t)))
    ∙ ap (common met) (sym (meet_empty n f)) ∙ ap (λ (x : ℕ). common met (meet_of n x f w)) (sym e) ∙ m.is

-- met from less than w
pub meet_from : (n set w met : ℕ) (f : ℕ → ℕ) → ((s : ℕ) → So (bit s met) → So (bit s w)) → meet_of n set f met ≡ common met (meet_of n set f w)
meet_from n set w met f part = ext_all (λ s. test_eq
    (λ t. let (u, each) = meet_of_at s set met f t in bit_common s met (meet_of n set f w) ∙ and_of u (meet_of_of s set w f (part s u) each))
    (λ t. let u = sym (bit_common s met (meet_of n set f w)) ∙ t in
    let (_, each) = meet_of_at s set w f (and_right _ u) in meet_of_of s set met f (and_left _ u) each))

-- and from nothing: the members do not count
pub meet_nothing : (n set w own : ℕ) {rows : ℕ} (f : ℕ → ℕ) → rows ≡ choose (same own 0) 0 set → meet_of n rows f (common w own) ≡ meet_of n set f (common w own)
meet_nothing n set w own {rows} f e = ⊎_elim
    (λ t. ext_all (λ s. test_eq (λ b. absurd (none s rows (same_at t) b)) (λ b. absurd (none s set (same_at t) b))))
    (λ t. ap (λ (x : ℕ). meet_of n x f (common w own)) (e ∙ choose_failed _ _ t))
    (holds_or (same own 0))
  where
    none : (s x : ℕ) → own ≡ 0 → So (bit s (meet_of n x f (common w own))) → ⊥
    none s x z b = no_bit_zero s (ap (bit s) (sym z) ∙ and_right _ (sym (bit_common s w own) ∙ (meet_of_at s x (common w own) f b).0))

-- ---- a loop over the members, word by word of a row: P k left says what word k is while these are left

pub record Lanes (P : ℕ → ℕ → ℕ → Type 0) (n left : ℕ) (row : List ℕ) : Type 0 where
  pub long : length row ≡ n
  pub is : (k : ℕ) → k < n → P k left (get_or row k 0)

module _ {P : ℕ → ℕ → ℕ → Type 0} {n left : ℕ} {row : List ℕ} (m : Lanes P n left row) where
  pub lanes_more : {left' : ℕ} {row' : List ℕ} {g : ℕ → ℕ} → ((k : ℕ) → P k left (get_or row k 0) → P k left' (g k)) → row' ≡ list_over n g
      → Lanes P n left' row'
  lanes_more {left'} {row'} {g} step e = record {
    long = ap length e ∙ length_list_over n g;
    is = λ k h. subst (P k left') (sym (ap (λ (l : List ℕ). get_or l k 0) e ∙ get_d_list_over g h)) (step k (m.is k h));
  }

  pub lanes_done : {g : ℕ → ℕ} → ((k : ℕ) → P k left (get_or row k 0) → get_or row k 0 ≡ g k) → row ≡ list_over n g
  lanes_done {g} last = sym (list_all row m.long) ∙ list_over_eq (λ k h. last k (m.is k h))
