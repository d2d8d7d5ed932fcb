-- Version 1 by the rows of version 2: the start sets turned round, the word over them, and the end sets read back from what it settles.
-- Assumes nothing.
use Prim.Native.Nat.{ℕ, ◌+◌, ◌^◌, ◌<◌}
use mathlib.Core.Path.{◌≡◌, refl, sym, ap, subst, ◌∙◌}
use mathlib.Core.Bool.{Bool, true, false}
use mathlib.Core.Logic.{⊎_elim}
use mathlib.Core.List.{List}
use lib.ListN.{get_or}
use Rattle.rules.specs.Test.{◌and◌, ◌or◌, fails, choose}
use Rattle.rules.specs.Word.{bit}
use Rattle.rules.specs.Lists.{list_over}
use Rattle.rules.specs.Shared.{start_label}
use Rattle.rules.proofs.Tests.{holds_or, fails_of, fails_at, test_eq}
use Rattle.rules.proofs.Overs.{choose_lt}
use Rattle.rules.proofs.Words.{ext, within_of, within_at, meets_of, meets_no}
use Rattle.rules.proofs.Members.{bit_start_label, start_label_lt}
use Rattle.rules.proofs.Layers.{get_d_list_over, list_over_eq}
use Rattle.words.specs.Width.{prop_width}
use Rattle.words.specs.Rows.{row_length}
use Rattle.run.specs.Course.{course, came, sets_of}
use Rattle.run.specs.Fire.{set_in, course_in, settled}
use Rattle.run.proofs.Packs.{halves}
use Rattle.run.proofs.Courses.{bit_came, came_lt, literal_low, literal_high, course_of, course_at_lem, course_lt}
use Rattle.run.proofs.Idles.{course_lt as word_lt, lacking_bit, having_bit}
use Rattle.run.proofs.Settles.{settled_at, has, settled_bit, outside}

-- ---- the rows: of each proposition the states that start with it

module _ (n : ℕ) (start : ℕ → ℕ) where
  abbrev rows : List ℕ
  rows = list_over row_length (start_label n start)

  -- state s is in the row of p when its set has p
  row_bit : {s p : ℕ} → s < n → p < row_length → bit s (get_or rows p 0) ≡ bit p (start s)
  row_bit {s} {p} h l = ap (bit s) (get_d_list_over _ l) ∙ bit_start_label start p h

  row_lt : {p : ℕ} → p < row_length → get_or rows p 0 < 2 ^ n
  row_lt {p} l = subst (λ (w : ℕ). w < 2 ^ n) (sym (get_d_list_over _ l)) (start_label_lt n start p)

-- ---- the word

-- over the states, and over the rows
pub course_turned : (n set : ℕ) (start : ℕ → ℕ) → ((s : ℕ) → s < n → start s < 2 ^ prop_width) → set < 2 ^ n
    → course n set start ≡ course_in set (list_over row_length (start_label n start))
course_turned n set start narrow inside = halves (course_lt n set start narrow) (word_lt set (rows n start))
    -- some state of the set lacks p: its row is not over all of the set
    (λ p l. test_eq
    (λ t.
    let (s, h, i, m) = course_at_lem n set start p t in
    lacking_bit set (rows n start) l ∙ fails_of (λ w. fails_at (sym (literal_low (narrow s h) p l) ∙ m)
    (sym (row_bit n start h l) ∙ within_at set (get_or (rows n start) p 0) s w i)))
    (λ t. ⊎_elim
    (λ u. u)
    (λ f. absurd (fails_at (sym (lacking_bit set (rows n start) l) ∙ t) (within_of (get_or (rows n start) p 0) inside (λ s h i.
    row_bit n start h l ∙ ⊎_elim
    (λ u. u)
    (λ g. absurd (fails_at f (course_of n set start p s h i (literal_low (narrow s h) p l ∙ g))))
    (holds_or (bit p (start s)))))))
    (holds_or (bit p (course n set start)))))
    -- some state of it has p: its row meets the set
    (λ p l. test_eq
    (λ t.
    let (s, h, i, m) = course_at_lem n set start (prop_width + p) t in
    having_bit set (rows n start) l
    ∙ meets_of (get_or (rows n start) p 0) set s (row_bit n start h l ∙ sym (literal_high (narrow s h) p) ∙ m) i)
    (λ t. ⊎_elim
    (λ u. u)
    (λ f. absurd (meets_no set (row_lt n start l)
    (λ s h u i. fails_at f (course_of n set start (prop_width + p) s h i (literal_high (narrow s h) p ∙ sym (row_bit n start h l) ∙ u)))
    (sym (having_bit set (rows n start) l) ∙ t)))
    (holds_or (bit (prop_width + p) (course n set start)))))

-- ---- the end sets

-- a state of the set has what it started with and some state has still, and what none lacks
within_set : (low high x : Bool) → has low high x true ≡ ((x and high) or fails low)
unfolding has choose ◌and◌ ◌or◌ fails
within_set true true true = refl
within_set true true false = refl
within_set true false true = refl
within_set true false false = refl
within_set false true true = refl
within_set false false true = refl
within_set false high false = refl

-- read back from the rows, and made of the start sets
pub sets_turned : (n set w : ℕ) (start : ℕ → ℕ) → ((s : ℕ) → s < n → start s < 2 ^ prop_width)
    → list_over n (set_in (settled set w (list_over row_length (start_label n start)))) ≡ sets_of n start set w
unfolding set_in sets_of choose
sets_turned n set w start narrow = list_over_eq (λ s h.
    ext (start_label_lt row_length _ s) (choose_lt {c = bit s set} (λ t. came_lt w (narrow s h)) (narrow s h)) (λ p l.
    bit_start_label (λ i. get_or (settled set w (rows n start)) i 0) s l ∙ ap (bit s) (settled_at set w (rows n start) l)
    ∙ settled_bit set w p (get_or (rows n start) p 0) s
    ∙ ap (λ (b : Bool). has (bit p w) (bit (prop_width + p) w) b (bit s set)) (row_bit n start h l) ∙ go s p l (bit s set)))
  where
    go : (s p : ℕ) → p < prop_width → (b : Bool)
        → has (bit p w) (bit (prop_width + p) w) (bit p (start s)) b ≡ bit p (choose b (came w (start s)) (start s))
    go s p l true = within_set (bit p w) (bit (prop_width + p) w) (bit p (start s)) ∙ sym (bit_came w (start s) p l)
    go s p l false = outside (bit p w) (bit (prop_width + p) w) (bit p (start s))
