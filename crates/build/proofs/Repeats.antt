-- Where the graph rests all later words are copies.
-- Assumes nothing.
use Prim.Native.Nat.{ℕ, zero, suc, ◌+◌, ◌-◌, ◌*◌, ◌/◌, ◌%◌, ◌≤◌, ◌<◌}
use mathlib.Core.Path.{◌≡◌, refl, sym, ap, ap₂, subst, ◌∙◌}
use mathlib.Core.Logic.{by_cases}
use mathlib.Core.List.{List, ◌++◌}
use native.Mathlib.Decide.{dec_le}
use native.Mathlib.Nat.{le_refl, add_comm, add_assoc, suc-mul, zero-mul, mul-zero, one-mul, add-mul, mul-le-mul_right, add-sub_of_le}
use native.Mathlib.Nat.{mod-lt, mod-eq_of_lt, mod-eq-sub-mod, mul-add-mod_self_right, div-add-mod', mul_assoc}
use native.Mathlib.Omega.{arith}
use lib.ListN.{length, get_or, take, drop, length-drop}
use lib.Seq.{get_or-append-add, get_or-take, get_or-drop, length-take-le, drop-drop}
use Rattle.rules.specs.declared.Shape.{Shape}
use Rattle.rules.specs.Lists.{list_over, run_over}
use Rattle.rules.specs.Domain.{Domain, shape_of}
use Rattle.rules.specs.Layer.{size, stride, word_count}
use Rattle.rules.specs.Shared.{prop_from}
use Rattle.rules.proofs.Rests.{rests}
use Rattle.rules.proofs.Layouts.{count_stride}
use Rattle.rules.proofs.Layers.{run_append, list_append, length_list_over, get_d_list_over, list_over_eq, list_over_self, run_over_eq, length_run_over}
use Rattle.words.specs.Memory.{put_at}
use Rattle.layers.specs.Step.{step_words}
use Rattle.build.specs.Steps.{Ended, Left}
use Rattle.words.proofs.Writes.{Lists, list_all, list_front, same_word, put_none, put_length, put_put, put_word, put_front}
use Rattle.build.proofs.Builds.{step_length}

-- so many words written, and more behind them
put_on : (f : ℕ → ℕ) (to i m : ℕ) (w₀ w : List ℕ) → to + i ≤ length w₀ → w ≡ put_at to (list_over i f) w₀
    → put_at (to + i) (list_over m (λ j. f (i + j))) w ≡ put_at to (list_over (i + m) f) w₀
put_on f to i m w₀ w room e =
    let more : List ℕ = list_over m (λ j. f (i + j)) in
    ap₂ (λ (x : ℕ) (y : List ℕ). put_at (to + x) more y) (sym (length_list_over i f)) e
    ∙ put_put to (list_over i f) w₀ (omega (arith, length_list_over i f)) more
    ∙ ap (λ (x : List ℕ). put_at to x w₀) (sym (list_append i m f))

-- words behind a place, copied from so far before it
pub put_copied : (at far count : ℕ) (w : List ℕ) {p q x : List ℕ} → far ≤ at → count ≤ far → at + count ≤ length w → p ≡ take at w → q ≡ drop at w
    → x ≡ take (at - far + count - (at - far)) (drop (at - far) p)
    → p ++ (x ++ drop count q) ≡ put_at at (list_over count (λ i. get_or w (at + i - far) 0)) w
unfolding put_at
put_copied at far count w {p} {q} {x} near short room ep eq ex =
    let from : ℕ = at - far in
    let n : from + count - from ≡ count = omega arith in
    let long : length (drop from p) ≡ far = omega (arith, length-drop from p, ap length ep, length-take-le at w (omega arith)) in
    let ex' : x ≡ take count (drop from p) = ex ∙ ap (λ (k : ℕ). take k (drop from p)) n in
    let length_x : length x ≡ count = ap length ex' ∙ length-take-le count (drop from p) (omega (arith, long)) in
    let word : (i : ℕ) → i < count → get_or x i 0 ≡ get_or w (at + i - far) 0 = λ i h.
    let place : from + i ≡ at + i - far = omega arith in
    ap (λ (l : List ℕ). get_or l i 0) ex' ∙ get_or-take count (drop from p) i 0 h ∙ get_or-drop from p i 0
    ∙ ap (λ (l : List ℕ). get_or l (from + i) 0) ep ∙ get_or-take at w (from + i) 0 (omega arith) ∙ ap (λ (k : ℕ). get_or w k 0) place in
    let all : x ≡ list_over count (λ i. get_or w (at + i - far) 0) = sym (list_all x length_x) ∙ list_over_eq word in
    let end : at + count ≡ at + length x = omega (arith, length_x) in
    ap₂ (λ (a b : List ℕ). a ++ (x ++ drop count b)) ep eq
    ∙ ap (λ (l : List ℕ). take at w ++ (x ++ l)) (drop-drop count at w ∙ ap (λ (k : ℕ). drop k w) end)
    ∙ ap (λ (l : List ℕ). put_at at l w) all

-- ---- a loop that writes the `far` words before `to` again and again

module _ {w₀ : List ℕ} {to far n i : ℕ} {w : List ℕ} (s : Lists (λ k. get_or w₀ (to - far + k % far) 0) to n w₀ i w) where
  module _ (near : far ≤ to) where
    -- the word that is read stood before `to`, or the loop wrote it
    before : (k : ℕ) → k < far → get_or w (to + k - far) 0 ≡ get_or w₀ (to - far + k % far) 0
    before k l =
        let place : to + k - far ≡ to - far + k % far = omega (arith, mod-eq_of_lt l) in
        same_word to (to + k - far) w w₀ (list_front to s (le_refl to)) (omega arith) ∙ ap (λ (x : ℕ). get_or w₀ x 0) place

    behind : (k : ℕ) → k < i + far → far ≤ k → get_or w (to + k - far) 0 ≡ get_or w₀ (to - far + k % far) 0
    behind k h l =
        let f : ℕ → ℕ = λ k. get_or w₀ (to - far + k % far) 0 in
        let place : to + k - far ≡ to + (k - far) = omega arith in
        ap₂ (λ (x : List ℕ) (y : ℕ). get_or x y 0) s.is place
        ∙ put_word to (list_over i f) w₀ (omega (arith, length_list_over i f, s.room, s.within)) (k - far) (omega (arith, length_list_over i f))
        ∙ get_d_list_over f (omega arith) ∙ ap (λ (x : ℕ). get_or w₀ (to - far + x) 0) (sym (mod-eq-sub-mod l))

    pub repeat_word : (k : ℕ) → k < i + far → get_or w (to + k - far) 0 ≡ get_or w₀ (to - far + k % far) 0
    repeat_word k h = by_cases (dec_le far k) (behind k h) (λ f. before k (omega arith))

  -- so many at once
  pub repeat_block : {w₂ : List ℕ} (m : ℕ) → m ≤ far → i + m ≤ n → (0 < m → far ≤ to) → w₂ ≡ put_at (to + i) (list_over m (λ j. get_or w (to + i + j - far) 0)) w
      → Lists (λ k. get_or w₀ (to - far + k % far) 0) to n w₀ (i + m) w₂
  repeat_block m short h near e =
      let f : ℕ → ℕ = λ k. get_or w₀ (to - far + k % far) 0 in
      let is =
      e
      ∙ ap (λ (x : List ℕ). put_at (to + i) x w) (list_over_eq (λ j l. ap (λ (x : ℕ). get_or w (x - far) 0) (add_assoc to i j) ∙ repeat_word (near (omega arith)) (i + j) (omega arith)))
      ∙ put_on f to i m w₀ w (omega (arith, s.room)) s.is in
      record {
        within = h;
        room = s.room;
        long = ap length is ∙ put_length to (list_over (i + m) f) w₀ (omega (arith, length_list_over (i + m) f, s.room));
        is = is;
      }

-- words that go by the remainder are one list again and again
list_again : (m s : ℕ) (f : ℕ → ℕ) → list_over (m * s) (λ i. f (i % s)) ≡ run_over m (λ t. list_over s f)
unfolding list_over run_over
list_again zero s f = ap (λ (x : ℕ). list_over x (λ i. f (i % s))) (zero-mul s)
list_again (suc m) s f =
    ap (λ (x : ℕ). list_over x (λ i. f (i % s))) (suc-mul m s)
    ∙ list_append (m * s) s (λ i. f (i % s))
    ∙ ap₂ (λ (x y : List ℕ). x ++ y) (list_again m s f) (list_over_eq (λ i h. ap f (mul-add-mod_self_right m s i ∙ mod-eq_of_lt h)))

-- ---- the steps that are left

-- from one proposition layer to the next
abbrev far : Domain → ℕ
far D = stride (shape_of D)

-- the words of step k over the layer l
abbrev step : Domain → ℕ → List ℕ → ℕ → List ℕ
step D all l k = step_words D all (prop_from D all l k)

step_far : (D : Domain) (all : ℕ) (l : List ℕ) → length (step_words D all l) ≡ far D
unfolding stride
step_far D all l = step_length D all l ∙ add_comm (size D.vertices) (size D.props)

steps_length : (D : Domain) (all : ℕ) (l : List ℕ) (k : ℕ) → length (run_over k (step D all l)) ≡ k * far D
steps_length D all l k = length_run_over (step D all l) k (λ i h. step_far D all (prop_from D all l i))

-- no factor of a product above 0 is 0
factors : (a b : ℕ) → 0 < a * b → (0 < a) × (0 < b)
factors zero b h = absurd (omega (arith, zero-mul b))
factors (suc a) zero h = absurd (omega (arith, mul-zero (suc a)))
factors (suc a) (suc b) h = (omega arith, omega arith)

module _ {D : Domain} {all : ℕ} {l : List ℕ} {depth : ℕ} {w₀ : List ℕ} {t looked : ℕ} {w : List ℕ} (s : Ended D all l depth w₀ t looked w)
    (room : word_count (shape_of D) depth ≤ length w₀) where
  products : t * far D + (depth - t) * far D ≡ depth * far D
  products = sym (add-mul t (depth - t) (far D)) ∙ ap (λ (x : ℕ). x * far D) (add-sub_of_le s.within)

  all_words : word_count (shape_of D) depth ≡ depth * far D + size D.props
  all_words = count_stride (shape_of D) depth

  fits : size D.props + length (run_over t (step D all l)) ≤ length w₀
  fits = omega (arith, steps_length D all l t, products, all_words)

  -- the last words written are those of the last step
  last_word : 0 < t → (i : ℕ) → i < far D → get_or w (size D.props + t * far D - far D + i) 0
      ≡ get_or (step D all l (t - 1)) i 0
  unfolding run_over
  last_word some i h =
      let q : t ≡ suc (t - 1) = omega arith in
      let before : ℕ = length (run_over (t - 1) (step D all l)) in
      let product : t * far D ≡ before + far D =
      ap (λ (x : ℕ). x * far D) q ∙ suc-mul (t - 1) (far D) ∙ omega (arith, steps_length D all l (t - 1)) in
      let place : size D.props + t * far D - far D + i ≡ size D.props + (before + i) = omega arith in
      ap₂ (λ (x : List ℕ) (y : ℕ). get_or x y 0) s.is place
      ∙ put_word (size D.props) (run_over t (step D all l)) w₀ fits (before + i) (omega (arith, steps_length D all l t))
      ∙ ap (λ (x : ℕ). get_or (run_over x (step D all l)) (before + i) 0) q
      ∙ get_or-append-add (run_over (t - 1) (step D all l)) (step D all l (t - 1)) i 0

  -- and of each step that is left
  left_step : (k : ℕ) → t < depth → list_over (far D) (λ i. get_or w (size D.props + t * far D - far D + i) 0)
      ≡ step D all l (t + k)
  left_step k h =
      let (some, e) = s.rests h in
      let q : t ≡ suc (t - 1) = omega arith in
      let last : List ℕ = step D all l (t - 1) in
      list_over_eq (last_word some)
      ∙ ap (λ (x : ℕ). list_over x (λ i. get_or last i 0)) (sym (step_far D all (prop_from D all l (t - 1)))) ∙ list_over_self
      ∙ ap (step_words D all) (sym (rests D all l (e ∙ ap (prop_from D all l) q) (omega arith)))

  -- they begin behind the words of the steps made; written again and again, the last one makes all steps to the depth
  place : word_count (shape_of D) t ≡ size D.props + t * far D
  place = count_stride (shape_of D) t ∙ add_comm (t * far D) (size D.props)

  count : word_count (shape_of D) depth - word_count (shape_of D) t ≡ (depth - t) * far D
  count = omega (arith, place, products, all_words)

  pub left_put : (w₂ : List ℕ)
      → w₂ ≡ put_at (word_count (shape_of D) t) (list_over (word_count (shape_of D) depth - word_count (shape_of D) t) (λ i. get_or w (word_count (shape_of D) t - far D + i % far D) 0)) w
      → w₂ ≡ put_at (size D.props) (run_over depth (λ k. step_words D all (prop_from D all l k))) w₀
  left_put w₂ e =
      let left : List ℕ = run_over (depth - t) (λ k. step D all l (t + k)) in
      e
      ∙ ap₂ (λ (x y : ℕ). put_at x (list_over y (λ i. get_or w (x - far D + i % far D) 0)) w) place count
      ∙ ap₂ (λ (x : List ℕ) (y : ℕ). put_at (size D.props + y) x w)
      (list_again (depth - t) (far D) (λ i. get_or w (size D.props + t * far D - far D + i) 0)
      ∙ run_over_eq (depth - t) (λ k h. left_step k (omega arith)))
      (sym (steps_length D all l t))
      ∙ ap (put_at (size D.props + length (run_over t (step D all l))) left) s.is
      ∙ put_put (size D.props) (run_over t (step D all l)) w₀ fits left
      ∙ ap (λ (x : List ℕ). put_at (size D.props) x w₀)
      (sym (run_append t (depth - t) (step D all l)) ∙ ap (λ (x : ℕ). run_over x (step D all l)) (add-sub_of_le s.within))

-- ---- a loop that writes all words from one stride before `to` on again and again: `done` words are written, whole strides

-- a remainder by many strides, by one
mod_many : (i m s : ℕ) → i % (m * s) % s ≡ i % s
mod_many i m s =
    let e : i ≡ i / (m * s) * (m * s) + i % (m * s) = sym (div-add-mod' i (m * s)) in
    sym (mul-add-mod_self_right (i / (m * s) * m) s (i % (m * s))) ∙ ap (λ (x : ℕ). x % s) (ap (λ (x : ℕ). x + i % (m * s)) (mul_assoc (i / (m * s)) m s)
    ∙ sym e)

pub record Again (to s count : ℕ) (w₀ : List ℕ) (done : ℕ) (w : List ℕ) : Type 0 where
  pub times : ℕ
  pub whole : done ≡ times * s
  pub within : done ≤ count
  pub long : length w ≡ length w₀
  pub is : w ≡ put_at to (list_over done (λ k. get_or w₀ (to - s + k % s) 0)) w₀

pub again_none : {to s count : ℕ} {w : List ℕ} → Again to s count w 0 w
unfolding list_over
again_none {to} {s} {count} {w} = record { times = 0; whole = sym (zero-mul s); within = omega arith; long = refl; is = sym (put_none to w) }

module _ {to s count : ℕ} {w₀ : List ℕ} {done : ℕ} {w : List ℕ} (a : Again to s count w₀ done w) (near : 0 < count → (0 < s) × (s ≤ to))
    (room : to + count ≤ length w₀) where
  abbrev word : ℕ → ℕ
  word k = get_or w₀ (to - s + k % s) 0

  abbrev copied : List ℕ
  copied = list_over done word

  fitting : to + length copied ≤ length w₀
  fitting = omega (arith, length_list_over done word, a.within)

  -- what stands that far back is what one stride back would give
  far_word : 0 < count → (i x : ℕ) → x ≡ i % (done + s) → get_or w (to - s + x) 0 ≡ word (done + i)
  far_word more i x e = by_cases (dec_le s x) later sooner
    where
      span : done + s ≡ suc a.times * s
      span = omega (arith, a.whole, suc-mul a.times s)

      short : x < done + s
      short = subst (λ (y : ℕ). y < done + s) (sym e) (mod-lt i (omega (arith, (near more).0)))

      target : word x ≡ word (done + i)
      target = ap (λ (y : ℕ). get_or w₀ (to - s + y) 0)
          (ap (λ (y : ℕ). y % s) (e ∙ ap (λ (y : ℕ). i % y) span) ∙ mod_many i (suc a.times) s ∙ sym (mul-add-mod_self_right a.times s i)
          ∙ ap (λ (y : ℕ). (y + i) % s) (sym a.whole))

      later : s ≤ x → get_or w (to - s + x) 0 ≡ word (done + i)
      later h =
          let q : to - s + x ≡ to + (x - s) = omega (arith, (near more).1) in
          ap₂ (λ (l : List ℕ) (y : ℕ). get_or l y 0) a.is q
          ∙ put_word to copied w₀ fitting (x - s) (omega (arith, short, length_list_over done word))
          ∙ get_d_list_over word (omega (arith, short))
          ∙ ap (λ (y : ℕ). get_or w₀ (to - s + y) 0) (sym (mod-eq-sub-mod h)) ∙ target

      sooner : (s ≤ x → ⊥) → get_or w (to - s + x) 0 ≡ word (done + i)
      sooner h =
          let k : x < s = omega arith in
          same_word to (to - s + x) w w₀ (ap (take to) a.is ∙ put_front to copied w₀ fitting to (le_refl to)) (omega (arith, (near more).1))
          ∙ ap (λ (y : ℕ). get_or w₀ (to - s + y) 0) (sym (mod-eq_of_lt k)) ∙ target

  -- so many more words, each from that far back
  again_put : {w₂ : List ℕ} → 0 < count → (more : ℕ) → w₂ ≡ put_at (to + done) (list_over more (λ i. get_or w (to + done - (done + s) + i % (done + s)) 0)) w
      → w₂ ≡ put_at to (list_over (done + more) word) w₀
  again_put some more e =
      let here : to + done - (done + s) ≡ to - s = omega arith in
      e
      ∙ ap (λ (x : List ℕ). put_at (to + done) x w) (list_over_eq (λ i h.
      ap (λ (y : ℕ). get_or w (y + i % (done + s)) 0) here ∙ far_word some i (i % (done + s)) refl))
      ∙ put_on word to done more w₀ w (omega (arith, a.within)) a.is

  pub again_more : {w₂ : List ℕ} → done + (done + s) < count
      → w₂ ≡ put_at (to + done) (list_over (done + s) (λ i. get_or w (to + done - (done + s) + i % (done + s)) 0)) w
      → Again to s count w₀ (done + (done + s)) w₂
  again_more h e =
      let m = a.times in
      let is = again_put (omega arith) (done + s) e in
      record {
        times = m + suc m;
        whole = omega (arith, a.whole, add-mul m (suc m) s, suc-mul m s);
        within = omega arith;
        long = ap length is ∙ put_length to (list_over (done + (done + s)) word) w₀ (omega (arith, length_list_over (done + (done + s)) word));
        is = is;
      }

  pub again_done : {w₂ : List ℕ} → w₂ ≡ put_at (to + done) (list_over (count - done) (λ i. get_or w (to + done - (done + s) + i % (done + s)) 0)) w
      → w₂ ≡ put_at to (list_over count word) w₀
  unfolding list_over
  again_done e = by_cases (dec_le 1 count)
      (λ h. again_put h (count - done) e ∙ ap (λ (x : ℕ). put_at to (list_over x word) w₀) (add-sub_of_le a.within))
      (λ h.
      let none : count - done ≡ 0 = omega arith in
      let all : done ≡ count = omega (arith, a.within) in
      e ∙ ap (λ (x : ℕ). put_at (to + done) (list_over x (λ i. get_or w (to + done - (done + s) + i % (done + s)) 0)) w) none
      ∙ put_none (to + done) w ∙ a.is ∙ ap (λ (x : ℕ). put_at to (list_over x word) w₀) all)

-- ---- what is left has room

-- after `done` of `depth` steps: the words that are left have room, and a step stands before them
module _ {S : Shape} {done depth : ℕ} {words : List ℕ} (left : Left S done depth words) where
  sum : word_count S done + (depth - done) * stride S ≡ word_count S depth
  sum =
      let all : done * stride S + (depth - done) * stride S ≡ depth * stride S =
      sym (add-mul done (depth - done) (stride S)) ∙ ap (λ (x : ℕ). x * stride S) (add-sub_of_le left.within) in
      omega (arith, all, count_stride S done, count_stride S depth)

  -- in the code's numbers
  module _ {to far all : ℕ} (et : to ≡ word_count S done) (ef : far ≡ stride S) (ea : all ≡ word_count S depth) where
    pub left_within : to ≤ all
    left_within = omega (arith, sum)

    pub left_room : (0 < all - to → (0 < far) × (far ≤ to)) × (to + (all - to) ≤ length words)
    left_room = (
      λ g.
          let (more, one) = factors (depth - done) (stride S) (omega (arith, sum)) in
          (omega (arith, one), omega (arith, count_stride S done, mul-le-mul_right (stride S) (left.some (omega arith)), one-mul (stride S))),
      omega (arith, sum, left.fits),
    )

    pub left_is : (w : List ℕ) → w ≡ put_at to (list_over (all - to) (λ i. get_or words (to - far + i % far) 0)) words
        → w ≡ put_at (word_count S done) (list_over (word_count S depth - word_count S done) (λ i. get_or words (word_count S done - stride S + i % stride S) 0)) words
    left_is w e =
        e ∙ ap₂ (λ (x y : ℕ). put_at x (list_over (all - x) (λ i. get_or words (x - y + i % y) 0)) words) et ef
        ∙ ap (λ (x : ℕ). put_at (word_count S done) (list_over (x - word_count S done) (λ i. get_or words (word_count S done - stride S + i % stride S) 0)) words) ea
