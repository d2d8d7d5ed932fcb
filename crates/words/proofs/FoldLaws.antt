-- The two ways in which words of rows are taken together keep the laws of a fold; and a loop that does so.
-- Assumes nothing.
use Prim.Native.Nat.{ℕ, ◌^◌, ◌<◌}
use mathlib.Core.Path.{◌≡◌, refl, sym, ap, ap₂, subst, ◌∙◌}
use native.Mathlib.Omega.{arith}
use lib.Bits.{or_zero_r}
use lib.Count.{count_trailing_zeros}
use Rattle.rules.specs.Word.{common, union, without, single}
use Rattle.rules.specs.Over.{join_of, meet_of}
use Rattle.rules.proofs.Members.{join_empty, join_pick, meet_empty, meet_pick}
use Rattle.rules.proofs.Tests.{and_left}
use Rattle.rules.proofs.Words.{bit_common, without_lt}
use Rattle.words.specs.Folds.{FoldLaws, met_with, joined_with}
use Rattle.words.specs.Members.{TakesLowest}
use Rattle.words.specs.Rows.{row_length}
use Rattle.words.specs.Width.{word_width}
use Rattle.words.proofs.MemberLoops.{union_assoc, common_assoc, lowest_in, lowest_lt, meet_from, shares_none}

module _ {set i rest : ℕ} (t : TakesLowest set i rest) (h : set < 2 ^ row_length) where
  low : ℕ
  low = count_trailing_zeros word_width set

  pub taken_lt : i < row_length
  taken_lt = omega (arith, t.is, lowest_lt row_length set (omega arith) h t.some)

  pub rest_lt : rest < 2 ^ row_length
  unfolding low
  rest_lt = subst (λ (x : ℕ). x < 2 ^ row_length) (sym t.others) (without_lt row_length (single low) h)

pub join_laws : FoldLaws union joined_with
join_laws = record {
  none = λ f w. ap (union w) (join_empty row_length f) ∙ or_zero_r w;
  more = λ {set} {i} {rest} f w t h.
      let q = count_trailing_zeros word_width set in
      ap (union w) (join_pick set f (lowest_lt row_length set (omega arith) h t.some) (lowest_in row_length set (omega arith) h t.some))
      ∙ sym (union_assoc w (f q) (join_of row_length (without set (single q)) f))
      ∙ ap₂ (λ (x y : ℕ). union (union w (f x)) (join_of row_length y f)) (sym t.is) (sym t.others);
}

pub meet_laws : FoldLaws common met_with
meet_laws = record {
  none = λ f w. meet_empty row_length f;
  more = λ {set} {i} {rest} f w t h.
      let q = count_trailing_zeros word_width set in
      let others = without set (single q) in
      sym (shares_none {f = f} {w = w} h).is
      ∙ ap (common w) (meet_pick set w f (lowest_lt row_length set (omega arith) h t.some) (lowest_in row_length set (omega arith) h t.some))
      ∙ sym (common_assoc w (f q) (meet_of row_length others f w))
      ∙ sym (meet_from row_length others w (common w (f q)) f (λ s b. and_left _ (sym (bit_common s w (f q)) ∙ b)))
      ∙ ap₂ (λ (x y : ℕ). meet_of row_length y f (common w (f x))) (sym t.is) (sym t.others);
}

-- ---- a loop over the members: the word so far with those that are left, as the first with all

pub record Folded (over : ℕ → (ℕ → ℕ) → ℕ → ℕ) (f : ℕ → ℕ) (w₀ set left w : ℕ) : Type 0 where
  pub inside : left < 2 ^ row_length
  pub is : over left f w ≡ over set f w₀

pub folded_none : {over : ℕ → (ℕ → ℕ) → ℕ → ℕ} {f : ℕ → ℕ} {w set : ℕ} → set < 2 ^ row_length → Folded over f w set set w
folded_none h = record { inside = h; is = refl }

module _ {op : ℕ → ℕ → ℕ} {over : ℕ → (ℕ → ℕ) → ℕ → ℕ} (laws : FoldLaws op over) {f : ℕ → ℕ} {w₀ set left w : ℕ} (s : Folded over f w₀ set left w) where
  pub folded_more : {i rest x : ℕ} → TakesLowest left i rest → x ≡ op w (f i) → Folded over f w₀ set rest x
  folded_more {i} {rest} {x} t e = record { inside = rest_lt t s.inside; is = ap (over rest f) e ∙ sym (laws.more f w t s.inside) ∙ s.is }

  pub folded_done : left ≡ 0 → w ≡ over set f w₀
  folded_done e = sym (laws.none f w) ∙ ap (λ (x : ℕ). over x f w) (sym e) ∙ s.is
