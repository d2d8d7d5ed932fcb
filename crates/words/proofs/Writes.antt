-- Words written into lent memory: one by one, list behind list, and through a lent part.
-- Assumes nothing.
use mathlib.Core.Path.{◌≡◌, refl, sym, ap, ap₂, ◌∙◌}
use mathlib.Core.List.{List, [], ◌∷◌, ◌++◌, append_assoc, append-nil}
use Prim.Native.Nat.{ℕ, ◌+◌, ◌-◌, ◌≤◌, ◌<◌}
use native.Mathlib.Nat.{add_assoc, add-zero, zero-add}
use native.Mathlib.Numerals.{add-one}
use native.Mathlib.Omega.{arith}
use borrow.Rule.Slice.PartMut.{put_mid}
use lib.ListN.{length, get_or, take, drop, set, length-append, length-drop, length-set, drop_of_length-le, take-append-drop, get_or-append}
use lib.Seq.{get_or-take, get_or-drop, take_at, drop_at, take_all, take-take, drop-drop, length-take-le, take-append-le, take-add, take-set-le, drop-set-lt, ext_get_or, set_split}
use Rattle.rules.specs.Lists.{list_over, run_over}
use Rattle.rules.proofs.Layers.{length_list_over, get_d_list_over, list_over_eq, list_over_self}
use Rattle.std.proofs.lemmas.List.{drop-append-le}
use Rattle.words.specs.Memory.{put_at}

-- memories with the same front have the same words and parts there
pub same_word : (b i : ℕ) (w w₀ : List ℕ) → take b w ≡ take b w₀ → i < b → get_or w i 0 ≡ get_or w₀ i 0
same_word b i w w₀ e h = sym (get_or-take b w i 0 h) ∙ ap (λ (l : List ℕ). get_or l i 0) e ∙ get_or-take b w₀ i 0 h

-- ---- the laws of put_at

pub put_none : (at : ℕ) (w : List ℕ) → put_at at [] w ≡ w
unfolding put_at
put_none at w = ap (λ (x : ℕ). take at w ++ drop x w) (add-zero at) ∙ take-append-drop at w

module _ (at : ℕ) (xs w : List ℕ) (room : at + length xs ≤ length w) where
  front_length : length (take at w) ≡ at
  front_length = length-take-le at w (omega arith)

  pub put_length : length (put_at at xs w) ≡ length w
  unfolding put_at
  put_length =
      length-append (take at w) (xs ++ drop (at + length xs) w)
      ∙ omega (arith, front_length, length-append xs (drop (at + length xs) w), length-drop (at + length xs) w)

  -- what stands before stays
  pub put_front : (b : ℕ) → b ≤ at → take b (put_at at xs w) ≡ take b w
  unfolding put_at
  put_front b l =
      take-append-le b (take at w) (xs ++ drop (at + length xs) w) (omega (arith, front_length)) ∙ take-take b at w l

  -- from `at` on
  pub put_back : drop at (put_at at xs w) ≡ xs ++ drop (at + length xs) w
  unfolding put_at
  put_back = drop_at (take at w) (xs ++ drop (at + length xs) w) at front_length

  -- behind what was put, memory stays
  pub put_rest : drop (at + length xs) (put_at at xs w) ≡ drop (at + length xs) w
  put_rest =
      sym (drop-drop (length xs) at (put_at at xs w)) ∙ ap (drop (length xs)) put_back ∙ drop_at xs (drop (at + length xs) w) (length xs) refl

  -- the words put, and all before them
  pub put_take : take (at + length xs) (put_at at xs w) ≡ take at w ++ xs
  put_take =
      take-add at (length xs) (put_at at xs w)
      ∙ ap₂ (λ (l r : List ℕ). l ++ r) (put_front at (omega arith)) (ap (take (length xs)) put_back ∙ take_at xs (drop (at + length xs) w) (length xs) refl)

  -- a list put behind another
  pub put_put : (ys : List ℕ) → put_at (at + length xs) ys (put_at at xs w) ≡ put_at at (xs ++ ys) w
  unfolding put_at
  put_put ys =
      let e : at + length xs + length ys ≡ at + length (xs ++ ys) = omega (arith, length-append xs ys) in
      ap₂ (λ (l r : List ℕ). l ++ (ys ++ r)) put_take
      (sym (drop-drop (length ys) (at + length xs) (put_at at xs w)) ∙ ap (drop (length ys)) put_rest ∙ drop-drop (length ys) (at + length xs) w
      ∙ ap (λ (x : ℕ). drop x w) e)
      ∙ append_assoc (take at w) xs (ys ++ drop (at + length (xs ++ ys)) w)
      ∙ ap (λ (l : List ℕ). take at w ++ l) (sym (append_assoc xs ys (drop (at + length (xs ++ ys)) w)))

  -- word i of those put
  pub put_word : (i : ℕ) → i < length xs → get_or (put_at at xs w) (at + i) 0 ≡ get_or xs i 0
  put_word i h =
      sym (get_or-drop at (put_at at xs w) i 0) ∙ ap (λ (l : List ℕ). get_or l i 0) put_back ∙ get_or-append xs (drop (at + length xs) w) 0 i h

  -- a word before or behind them
  pub put_below : (i : ℕ) → i < at → get_or (put_at at xs w) i 0 ≡ get_or w i 0
  put_below i h = same_word at i (put_at at xs w) w (put_front at (omega arith)) h

  pub put_above : (i : ℕ) → at + length xs ≤ i → get_or (put_at at xs w) i 0 ≡ get_or w i 0
  put_above i h =
      let k = at + length xs in
      let e : k + (i - k) ≡ i = omega arith in
      ap (λ (x : ℕ). get_or (put_at at xs w) x 0) (sym e) ∙ sym (get_or-drop k (put_at at xs w) (i - k) 0) ∙ ap (λ (l : List ℕ). get_or l (i - k) 0) put_rest
      ∙ get_or-drop k w (i - k) 0 ∙ ap (λ (x : ℕ). get_or w x 0) e

  -- what stood where they are put does not matter
  pub put_over : (i v : ℕ) → i < length xs → put_at at xs (set w (at + i) v) ≡ put_at at xs w
  unfolding put_at
  put_over i v h =
      ap₂ (λ (l r : List ℕ). l ++ (xs ++ r)) (take-set-le at w (at + i) v (omega arith)) (drop-set-lt (at + length xs) w (at + i) v (omega arith))

-- a list put at the front and another behind it
pub put_behind : (at : ℕ) (xs ys w₀ w₁ w₂ : List ℕ) → length xs ≡ at → at + length ys ≤ length w₀ → w₁ ≡ put_at 0 xs w₀ → w₂ ≡ put_at at ys w₁
    → w₂ ≡ put_at 0 (xs ++ ys) w₀
put_behind at xs ys w₀ w₁ w₂ e room e₁ e₂ =
    let here : at ≡ 0 + length xs = omega arith in
    e₂ ∙ ap₂ (λ (x : ℕ) (l : List ℕ). put_at x ys l) here e₁ ∙ put_put 0 xs w₀ (omega arith) ys

-- a word put at the front
pub front_word : (m i : ℕ) (f : ℕ → ℕ) (w : List ℕ) → m ≤ length w → i < m → get_or (put_at 0 (list_over m f) w) i 0 ≡ f i
front_word m i f w room h =
    ap (λ (x : ℕ). get_or (put_at 0 (list_over m f) w) x 0) (sym (zero-add i))
    ∙ put_word 0 (list_over m f) w (omega (arith, length_list_over m f)) i (omega (arith, length_list_over m f)) ∙ get_d_list_over f h

-- words put where they stand
pub put_same : (at n : ℕ) (w : List ℕ) → at + n ≤ length w → put_at at (list_over n (λ k. get_or w (at + k) 0)) w ≡ w
unfolding put_at
put_same at n w room =
    let l : length (take n (drop at w)) ≡ n = length-take-le n (drop at w) (omega (arith, length-drop at w)) in
    let e : list_over n (λ k. get_or w (at + k) 0) ≡ take n (drop at w) =
    ext_get_or 0 _ _ (length_list_over n _ ∙ sym l) (λ k h.
    let g : k < n = omega (arith, length_list_over n (λ k. get_or w (at + k) 0)) in
    get_d_list_over _ g ∙ sym (get_or-take n (drop at w) k 0 g ∙ get_or-drop at w k 0)) in
    ap (λ (x : List ℕ). take at w ++ (x ++ drop (at + length x) w)) e
    ∙ ap (λ (x : ℕ). take at w ++ (take n (drop at w) ++ drop (at + x) w)) l
    ∙ ap (λ (x : List ℕ). take at w ++ (take n (drop at w) ++ x)) (sym (drop-drop n at w))
    ∙ ap (λ (x : List ℕ). take at w ++ x) (take-append-drop n (drop at w)) ∙ take-append-drop at w

-- one word
pub put_one : (at v : ℕ) (w : List ℕ) → at < length w → set w at v ≡ put_at at (v ∷ []) w
unfolding put_at
put_one at v w h = set_split w at v h ∙ ap (λ (x : ℕ). take at w ++ (v ∷ drop x w)) (sym (add-one at))

-- ---- what is lent by &mut w[at..], and the whole once it is back

pub tail_all : (at : ℕ) (w : List ℕ) → take (length w - at) (drop at w) ≡ drop at w
tail_all at w = take_all (length w - at) (drop at w) (omega (arith, length-drop at w))

pub tail_length : (at : ℕ) (w : List ℕ) → at ≤ length w → length (take (length w - at) (drop at w)) ≡ length w - at
tail_length at w h = ap length (tail_all at w) ∙ length-drop at w

put_tail : (at : ℕ) (w p : List ℕ) → at ≤ length w → put_mid at (length w - at) w p ≡ take at w ++ p
put_tail at w p h =
    let e : length w ≤ at + (length w - at) = omega arith in
    ap (λ (x : List ℕ). take at w ++ (p ++ x)) (drop-drop (length w - at) at w ∙ drop_of_length-le w e)
    ∙ ap (λ (x : List ℕ). take at w ++ x) (append-nil p)

-- words put into the lent part are put into the whole
pub put_within : (at b : ℕ) (xs w p : List ℕ) → at + b + length xs ≤ length w → p ≡ put_at b xs (take (length w - at) (drop at w))
    → put_mid at (length w - at) w p ≡ put_at (at + b) xs w
unfolding put_at
put_within at b xs w p room e =
    put_tail at w p (omega arith)
    ∙ ap (λ (l : List ℕ). take at w ++ l) (e ∙ ap (λ (l : List ℕ). take b l ++ (xs ++ drop (b + length xs) l)) (tail_all at w))
    ∙ sym (append_assoc (take at w) (take b (drop at w)) (xs ++ drop (b + length xs) (drop at w)))
    ∙ ap₂ (λ (l r : List ℕ). l ++ (xs ++ r)) (sym (take-add at b w))
    (drop-drop (b + length xs) at w ∙ ap (λ (x : ℕ). drop x w) (sym (add_assoc at b (length xs))))

-- the same of a part from `at` on that is as long as these words
pub put_part : (at n : ℕ) (xs w p : List ℕ) → length xs ≡ n → p ≡ xs → put_mid at (at + n - at) w p ≡ put_at at xs w
unfolding put_at
put_part at n xs w p long e =
    let here : at + (at + n - at) ≡ at + length xs = omega arith in
    ap (λ (l : List ℕ). take at w ++ (l ++ drop (at + n - at) (drop at w))) e
    ∙ ap (λ (l : List ℕ). take at w ++ (xs ++ l)) (drop-drop (at + n - at) at w ∙ ap (λ (x : ℕ). drop x w) here)

-- words put at the front of a lent part
pub put_inside : (at n : ℕ) (xs w p : List ℕ) → length xs ≤ n → at + n ≤ length w → p ≡ put_at 0 xs (take (at + n - at) (drop at w))
    → put_mid at (at + n - at) w p ≡ put_at at xs w
unfolding put_at
put_inside at n xs w p few room e =
    let m : at + n - at ≡ n = omega arith in
    let d = drop at w in
    let back : drop (length xs) (take n d) ++ drop n d ≡ drop (length xs) d =
    sym (drop-append-le (length xs) (take n d) (drop n d) (omega (arith, length-take-le n d (omega (arith, length-drop at w))))) ∙ ap (drop (length xs)) (take-append-drop n d) in
    ap (λ (l : List ℕ). take at w ++ (l ++ drop (at + n - at) d)) e
    ∙ ap (λ (x : ℕ). take at w ++ ((xs ++ drop (0 + length xs) (take x d)) ++ drop x d)) m
    ∙ ap (λ (x : ℕ). take at w ++ ((xs ++ drop x (take n d)) ++ drop n d)) (zero-add (length xs))
    ∙ ap (λ (l : List ℕ). take at w ++ l) (append_assoc xs (drop (length xs) (take n d)) (drop n d) ∙ ap (λ (l : List ℕ). xs ++ l) back)
    ∙ ap (λ (l : List ℕ). take at w ++ (xs ++ l)) (drop-drop (length xs) at w)

-- a word of what is lent by &w[at..]
pub tail_word : (at : ℕ) (w : List ℕ) (k : ℕ) → get_or (take (length w - at) (drop at w)) k 0 ≡ get_or w (at + k) 0
tail_word at w k = ap (λ (l : List ℕ). get_or l k 0) (tail_all at w) ∙ get_or-drop at w k 0

-- the words of a list, one by one
pub list_all : {n : ℕ} (l : List ℕ) → length l ≡ n → list_over n (λ k. get_or l k 0) ≡ l
list_all l e = ap (λ (x : ℕ). list_over x (λ k. get_or l k 0)) (sym e) ∙ list_over_self

-- a list made of another one, word by word
pub list_through : (n : ℕ) (f : ℕ → ℕ) (g : ℕ → ℕ → ℕ) {p q : List ℕ} → p ≡ list_over n f → q ≡ list_over n (λ k. g k (get_or p k 0))
    → q ≡ list_over n (λ k. g k (f k))
list_through n f g e d = d ∙ list_over_eq (λ k h. ap (g k) (ap (λ (l : List ℕ). get_or l k 0) e ∙ get_d_list_over f h))

-- ---- a loop that writes f 0, f 1 .. from `base` on: i of n words are written

pub record Lists (f : ℕ → ℕ) (base n : ℕ) (w₀ : List ℕ) (i : ℕ) (w : List ℕ) : Type 0 where
  pub within : i ≤ n
  pub room : base + n ≤ length w₀
  pub long : length w ≡ length w₀
  pub is : w ≡ put_at base (list_over i f) w₀

pub list_none : {f : ℕ → ℕ} {base n : ℕ} {w : List ℕ} → base + n ≤ length w → Lists f base n w 0 w
unfolding list_over
list_none {f} {base} {n} {w} h = record { within = omega arith; room = h; long = refl; is = sym (put_none base w) }

pub list_more : {f : ℕ → ℕ} {base n i at v : ℕ} {w₀ w : List ℕ} → Lists f base n w₀ i w → i < n → at ≡ base + i → v ≡ f i
    → Lists f base n w₀ (i + 1) (set w at v)
unfolding list_over
list_more {f} {base} {n} {i} {at} {v} {w₀} {w} s h q e =
    let l : length (list_over i f) ≡ i = length_list_over i f in
    record {
      within = omega arith;
      room = s.room;
      long = length-set w at v ∙ s.long;
      is = put_one at v w (omega (arith, s.long, s.room))
          ∙ ap₂ (λ (x : List ℕ) (y : ℕ). put_at at (y ∷ []) x) s.is e
          ∙ ap (λ (x : ℕ). put_at x (f i ∷ []) (put_at base (list_over i f) w₀)) q
          ∙ ap (λ (x : ℕ). put_at (base + x) (f i ∷ []) (put_at base (list_over i f) w₀)) (sym l)
          ∙ put_put base (list_over i f) w₀ (omega (arith, s.room)) (f i ∷ [])
          ∙ ap (λ (x : ℕ). put_at base (list_over x f) w₀) (sym (add-one i));
    }

pub list_done : {f : ℕ → ℕ} {base n i : ℕ} {w₀ w : List ℕ} → Lists f base n w₀ i w → n ≤ i → w ≡ put_at base (list_over n f) w₀
list_done {f} {base} {n} {i} {w₀} s h = let e : i ≡ n = omega (arith, s.within) in s.is ∙ ap (λ (x : ℕ). put_at base (list_over x f) w₀) e

-- words that fill the memory
pub put_whole : (xs w : List ℕ) → length xs ≡ length w → put_at 0 xs w ≡ xs
unfolding put_at
put_whole xs w e =
    let h : length w ≤ 0 + length xs = omega arith in
    ap (λ (l : List ℕ). xs ++ l) (drop_of_length-le w h) ∙ append-nil xs

pub list_whole : {f : ℕ → ℕ} {n i : ℕ} {w₀ w : List ℕ} → Lists f 0 n w₀ i w → n ≤ i → length w₀ ≡ n → w ≡ list_over n f
list_whole {f} {n} {i} {w₀} s h e = list_done s h ∙ put_whole (list_over n f) w₀ (length_list_over n f ∙ sym e)

-- what stands before the words stays while they are written
pub list_front : {f : ℕ → ℕ} {base n i : ℕ} {w₀ w : List ℕ} (b : ℕ) → Lists f base n w₀ i w → b ≤ base → take b w ≡ take b w₀
list_front {f} {base} {n} {i} {w₀} b s h = ap (take b) s.is ∙ put_front base (list_over i f) w₀ (omega (arith, length_list_over i f, s.within, s.room)) b h

-- what lies ahead of such a loop is not changed yet
pub list_ahead : {f : ℕ → ℕ} {base n i at : ℕ} {w₀ w : List ℕ} → Lists f base n w₀ i w → at ≡ base + i → get_or w at 0 ≡ get_or w₀ at 0
list_ahead {f} {base} {n} {i} {at} {w₀} s e =
    ap (λ (l : List ℕ). get_or l at 0) s.is
    ∙ put_above base (list_over i f) w₀ (omega (arith, length_list_over i f, s.within, s.room)) at (omega (arith, length_list_over i f))

-- ---- a loop that writes lists g 0, g 1 .. one behind the other from `base` on: t of n are written, up to `at`

pub record Runs (g : ℕ → List ℕ) (base n : ℕ) (w₀ : List ℕ) (t at : ℕ) (w : List ℕ) : Type 0 where
  pub within : t ≤ n
  pub here : base + length (run_over t g) ≡ at
  pub inside : at ≤ length w₀
  pub long : length w ≡ length w₀
  pub is : w ≡ put_at base (run_over t g) w₀

pub run_none : {g : ℕ → List ℕ} {base n : ℕ} {w : List ℕ} → base ≤ length w → Runs g base n w 0 base w
unfolding run_over
run_none {g} {base} {n} {w} h = record { within = omega arith; here = add-zero base; inside = h; long = refl; is = sym (put_none base w) }

pub run_more : {g : ℕ → List ℕ} {base n t at : ℕ} {w₀ w w' : List ℕ} (k : ℕ) → Runs g base n w₀ t at w → t < n → at + k ≤ length w₀
    → length (g t) ≡ k → w' ≡ put_at at (g t) w → Runs g base n w₀ (t + 1) (at + k) w'
unfolding run_over
run_more {g} {base} {n} {t} {at} {w₀} {w} {w'} k s h room lg e =
    let l : length (run_over t g ++ g t) ≡ length (run_over t g) + length (g t) = length-append (run_over t g) (g t) in
    let is : w' ≡ put_at base (run_over t g ++ g t) w₀ =
    e ∙ ap₂ (λ (x : ℕ) (y : List ℕ). put_at x (g t) y) (sym s.here) s.is ∙ put_put base (run_over t g) w₀ (omega (arith, s.here)) (g t) in
    record {
      within = omega arith;
      here = ap (λ (x : ℕ). base + length (run_over x g)) (add-one t) ∙ omega (arith, s.here);
      inside = room;
      long = ap length is ∙ put_length base (run_over t g ++ g t) w₀ (omega (arith, s.here));
      is = is ∙ ap (λ (x : ℕ). put_at base (run_over x g) w₀) (sym (add-one t));
    }

pub run_done : {g : ℕ → List ℕ} {base n t at : ℕ} {w₀ w : List ℕ} → Runs g base n w₀ t at w → n ≤ t → w ≡ put_at base (run_over n g) w₀
run_done {g} {base} {n} {t} {at} {w₀} s h = let k : t ≡ n = omega (arith, s.within) in s.is ∙ ap (λ (x : ℕ). put_at base (run_over x g) w₀) k
