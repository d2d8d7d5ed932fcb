-- The words that the code cuts, one by one, are those of the rule.
-- Assumes nothing.
use mathlib.Core.Path.{◌≡◌, refl, sym, ap, ap₂, ◌∙◌}
use mathlib.Core.List.{List, [], ◌∷◌, ◌++◌, map, map-append}
use Prim.Native.Nat.{ℕ, zero, suc, ◌+◌, ◌^◌, ◌≤◌, ◌<◌}
use native.Mathlib.Nat.{zero-add}
use native.Mathlib.Omega.{arith}
use lib.ListN.{length, get_or, take}
use lib.Seq.{take-suc}
use Rattle.rules.specs.Lists.{list_over}
use Rattle.rules.specs.Layer.{word_count}
use Rattle.rules.specs.Extract.{close_up, extract_of}
use Rattle.rules.specs.declared.Shape.{Shape}
use Rattle.rules.proofs.Layers.{length_list_over, get_d_list_over, list_over_eq, list_append}
use Rattle.words.specs.Width.{state_width}
use Rattle.words.specs.Memory.{put_at}
use Rattle.words.proofs.Writes.{put_none, put_length, put_put, put_word}
use Rattle.graph.specs.Verdict.{Verdict, accepted, laid, written}
use Rattle.graph.proofs.Verdicts.{laid_accepted}
use Rattle.extract.specs.Moves.{cut_words, CutUpTo, piece_words}
use Rattle.extract.proofs.Moves.{close_up_wide}

-- words written one by one are the words of a list, each closed up
each_word : (g : ℕ → ℕ) (words : List ℕ) (m : ℕ) → m ≤ length words → list_over m (λ j. g (get_or words j 0)) ≡ map g (take m words)
unfolding list_over
each_word g words zero h = refl
each_word g words (suc m) h =
    ap (λ (l : List ℕ). l ++ (g (get_or words m 0) ∷ [])) (each_word g words m (omega arith))
    ∙ sym (ap (map g) (take-suc words m 0 h) ∙ map-append g (take m words) (get_or words m 0 ∷ []))

module _ (S : Shape) (n depth set wanted : ℕ) (words : List ℕ) (small : set < 2 ^ n) (few : n ≤ state_width) (w : wanted ≡ word_count S depth)
    (h : wanted ≤ length words) where
  cut_is : cut_words set words 0 wanted ≡ extract_of S n depth set words
  unfolding cut_words extract_of
  cut_is =
      list_over_eq (λ j l.
      ap (λ (x : ℕ). close_up state_width set (get_or words x 0)) (zero-add j) ∙ close_up_wide n set (get_or words j 0) state_width few small)
      ∙ each_word (close_up n set) words wanted h
      ∙ ap (λ (x : ℕ). map (close_up n set) (take x words)) w

  cut_long : length (cut_words set words 0 wanted) ≡ wanted
  unfolding cut_words
  cut_long = length_list_over wanted (λ j. close_up state_width set (get_or words (0 + j) 0))

  -- written at the front, they are the memory that the rule leaves
  pub cut_laid : (v : Verdict (List ℕ)) (out out' : List ℕ) → v ≡ accepted (extract_of S n depth set words) → out' ≡ put_at 0 (cut_words set words 0 wanted) out
      → (accepted wanted ≡ written v) × (out' ≡ laid v out)
  cut_laid v out out' e q = laid_accepted v _ out out' wanted e (sym cut_long ∙ ap length cut_is) (q ∙ ap (λ (l : List ℕ). put_at 0 l out) cut_is)

-- ---- pieces one behind the other

-- a piece that is the same as one before it: what came of that one
pub cut_again : (set : ℕ) (words out : List ℕ) (from to : ℕ) → from + piece_words ≤ to → CutUpTo set words out to
    → ((i : ℕ) → i < piece_words → get_or words (from + i) 0 ≡ get_or words (to + i) 0)
    → list_over piece_words (λ i. get_or out (from + i) 0) ≡ cut_words set words to piece_words
unfolding cut_words
cut_again set words out from to h done same =
    list_over_eq (λ i l. done (from + i) (omega arith) ∙ ap (close_up state_width set) (same i l))

-- of so many words those up to a place have been cut
pub record Front (set : ℕ) (words : List ℕ) (count : ℕ) (out₀ : List ℕ) (at : ℕ) (out : List ℕ) : Type 0 where
  pub within : at ≤ count
  pub room : count ≤ length out₀
  pub long : length out ≡ length out₀
  pub is : out ≡ put_at 0 (cut_words set words 0 at) out₀

pub front_none : {set : ℕ} {words : List ℕ} {count : ℕ} {out : List ℕ} → count ≤ length out → Front set words count out 0 out
unfolding cut_words list_over
front_none {out = out} h = record { within = omega arith; room = h; long = refl; is = sym (put_none 0 out) }

words_long : (set : ℕ) (words : List ℕ) (at count : ℕ) → length (cut_words set words at count) ≡ count
unfolding cut_words
words_long set words at count = length_list_over count _

module _ {set : ℕ} {words : List ℕ} {count : ℕ} {out₀ : List ℕ} {at : ℕ} {out : List ℕ} (f : Front set words count out₀ at out) where
  fits : 0 + length (cut_words set words 0 at) ≤ length out₀
  fits = omega (arith, words_long set words 0 at, f.within, f.room)

  pub front_cut : CutUpTo set words out at
  unfolding cut_words
  front_cut j h =
      ap₂ (λ (l : List ℕ) (x : ℕ). get_or l x 0) f.is (sym (zero-add j))
      ∙ put_word 0 (cut_words set words 0 at) out₀ fits j (omega (arith, words_long set words 0 at))
      ∙ get_d_list_over _ h
      ∙ ap (λ (x : ℕ). close_up state_width set (get_or words x 0)) (zero-add j)

  more_words : (n : ℕ) → cut_words set words 0 at ++ cut_words set words at n ≡ cut_words set words 0 (at + n)
  unfolding cut_words
  more_words n = sym (
      list_append at n (λ i. close_up state_width set (get_or words (0 + i) 0))
      ∙ ap (λ (l : List ℕ). list_over at (λ i. close_up state_width set (get_or words (0 + i) 0)) ++ l)
      (list_over_eq (λ i l. ap (λ (x : ℕ). close_up state_width set (get_or words x 0)) (zero-add (at + i)))))

  pub front_more : (n : ℕ) {out' : List ℕ} → at + n ≤ count → out' ≡ put_at at (cut_words set words at n) out → Front set words count out₀ (at + n) out'
  front_more n {out'} h e =
      let here : at ≡ 0 + length (cut_words set words 0 at) = omega (arith, words_long set words 0 at) in
      record {
        within = h;
        room = f.room;
        long = ap length e ∙ put_length at (cut_words set words at n) out (omega (arith, words_long set words at n, f.long, f.room)) ∙ f.long;
        is = e
            ∙ ap₂ (λ (l : List ℕ) (x : ℕ). put_at x (cut_words set words at n) l) f.is here
            ∙ put_put 0 (cut_words set words 0 at) out₀ fits (cut_words set words at n)
            ∙ ap (λ (l : List ℕ). put_at 0 l out₀) (more_words n);
      }

pub front_done : {set : ℕ} {words : List ℕ} {count : ℕ} {out₀ : List ℕ} {at : ℕ} {out : List ℕ} → Front set words count out₀ at out → at ≡ count
    → out ≡ put_at 0 (cut_words set words 0 count) out₀
front_done {set} {words} {out₀ = out₀} f e = f.is ∙ ap (λ (x : ℕ). put_at 0 (cut_words set words 0 x) out₀) e
