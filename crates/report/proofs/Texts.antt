-- Text: how long it is, and text behind text.
-- Assumes nothing.
use Prim.Native.Nat.{ℕ, zero, suc, ◌+◌, ◌-◌, ◌*◌, ◌/◌, ◌%◌, ◌^◌, ◌≤◌, ◌<◌}
use mathlib.Core.Path.{◌≡◌, refl, sym, ap, ap₂, subst, ◌∙◌}
use mathlib.Core.List.{List, [], ◌∷◌, ◌++◌}
use mathlib.Core.Logic.{by_cases}
use native.Mathlib.Decide.{dec_le}
use native.Mathlib.Omega.{arith}
use native.Mathlib.Nat.{suc-mul, pow-suc}
use native.Mathlib.Numerals.{add-one}
use borrow.Rule.Slice.PartMut.{put_mid}
use lib.ListN.{length, take, drop, length-append}
use lib.Seq.{drop-drop}
use Rattle.std.specs.Fmt.{decimal as std_decimal}
use Rattle.std.proofs.lemmas.Fmt.{decimal_by_steps}
use Rattle.rules.specs.Test.{below, choose}
use Rattle.rules.specs.Lists.{run_over}
use Rattle.rules.proofs.Tests.{choose_failed, is_fails, below_of, below_not}
use Rattle.words.specs.Memory.{put_at}
use Rattle.words.proofs.Writes.{put_none, put_put, put_length}
use Rattle.report.specs.Decimal.{digit, spell, decimal}
use Rattle.report.specs.Wrote.{Fits, Adds}
use Rattle.report.specs.declared.writer.Writer.{Writer}

-- ---- decimal digits

-- the digits do not depend on how many there might be, once there may be enough
spell_enough : (f g n : ℕ) → n ≤ f → n ≤ g → spell f n ≡ spell g n
unfolding spell choose
spell_enough zero zero n h k = refl
spell_enough zero (suc g) n h k = simp (below_of {i = n} {j = 10} (omega arith))
spell_enough (suc f) zero n h k = simp (below_of {i = n} {j = 10} (omega arith))
spell_enough (suc f) (suc g) n h k = ap (λ (l : List ℕ). choose (below n 10) (digit n ∷ []) (l ++ (digit n ∷ []))) (spell_enough f g (n / 10) (omega arith)
    (omega arith))

pub decimal_one : (n : ℕ) → n < 10 → (48 + n) ∷ [] ≡ decimal n
unfolding decimal spell choose digit
decimal_one zero h = refl
decimal_one (suc n) h = let e : suc n ≡ suc n % 10 = omega arith in ap (λ (d : ℕ). (48 + d) ∷ []) e ∙ sym (simp (below_of h))

pub decimal_more : (n : ℕ) → 10 ≤ n → decimal (n / 10) ++ ((48 + n % 10) ∷ []) ≡ decimal n
unfolding decimal spell digit
decimal_more zero h = absurd (omega arith)
decimal_more (suc n) h =
    ap (λ (l : List ℕ). l ++ (digit (suc n) ∷ [])) (spell_enough (suc n / 10) n (suc n / 10) (omega arith) (omega arith))
    ∙ sym (choose_failed (below (suc n) 10) _ (is_fails (below_not h)))

-- they are what std writes
pub decimal_is : (n : ℕ) → n < 2 ^ 64 → std_decimal n ≡ decimal n
decimal_is = decimal_by_steps (λ m l. l ≡ decimal m) decimal_one (λ m l h e. ap (λ (x : List ℕ). x ++ ((48 + m % 10) ∷ [])) e ∙ decimal_more m h)

one_long : (n m : ℕ) → n < 10 → 1 ≤ m → length (decimal n) ≤ m
one_long n m h l = subst (λ (x : List ℕ). length x ≤ m) (decimal_one n h) (omega arith)

-- a number below the power k of ten has at most k digits
pub decimal_length : (k n : ℕ) → n < 10 ^ k → 1 ≤ k → length (decimal n) ≤ k
decimal_length zero n h l = absurd (omega arith)
decimal_length (suc zero) n h l = one_long n 1 (omega arith) (omega arith)
decimal_length (suc (suc k)) n h l = by_cases (dec_le 10 n)
    (λ q. subst (λ (x : List ℕ). length x ≤ suc (suc k)) (decimal_more n q)
    (omega (arith, length-append (decimal (n / 10)) ((48 + n % 10) ∷ []), decimal_length (suc k) (n / 10) (omega (arith, pow-suc 10 (suc k))) (omega arith))))
    (λ q. one_long n _ (omega arith) (omega arith))

-- ---- text behind text

-- the part that was lent is back, as text
pub put_part : (at n : ℕ) (w xs : List ℕ) → n ≡ length xs → put_mid at (at + n - at) w xs ≡ put_at at xs w
unfolding put_at
put_part at n w xs e =
    let k : at + (at + n - at) ≡ at + length xs = omega arith in
    ap (λ (l : List ℕ). take at w ++ (xs ++ l)) (drop-drop (at + n - at) at w ∙ ap (λ (m : ℕ). drop m w) k)

pub fits_front : {w : Writer} {xs : List ℕ} (ys : List ℕ) → Fits w (xs ++ ys) → Fits w xs
fits_front {w} {xs} ys h = record { room = omega (arith, h.room, length-append xs ys) }

module _ {w w' : Writer} {xs : List ℕ} (x : Adds w xs w') where
  room : w.end + length xs ≤ length w.out.now
  room = omega (arith, x.wrote.ends, x.wrote.fits)

  pub adds_length : length w'.out.now ≡ length w.out.now
  adds_length = ap length x.wrote.is ∙ put_length w.end xs w.out.now room

  -- so much less room is left
  pub spent : (w'.end ≡ w.end + length xs) × (length w'.out.now ≡ length w.out.now)
  spent = (x.wrote.ends, adds_length)

  pub fits_next : (ys : List ℕ) → Fits w (xs ++ ys) → Fits w' ys
  fits_next ys h = record { room = omega (arith, h.room, x.wrote.ends, adds_length, length-append xs ys) }

  pub adds_then : {w'' : Writer} {ys : List ℕ} → Adds w' ys w'' → Adds w (xs ++ ys) w''
  adds_then {w''} {ys} y = record {
    wrote = record {
      is = y.wrote.is ∙ ap₂ (λ (b : ℕ) (l : List ℕ). put_at b ys l) x.wrote.ends x.wrote.is ∙ put_put w.end xs w.out.now room ys;
      ends = y.wrote.ends ∙ omega (arith, x.wrote.ends, length-append xs ys);
      fits = omega (arith, y.wrote.fits, adds_length);
    };
    same = y.same ∙ x.same;
  }

  pub adds_same : {ys : List ℕ} → xs ≡ ys → Adds w ys w'
  adds_same e = subst (λ (l : List ℕ). Adds w l w') e x

pub adds_none : (w : Writer) → Fits w [] → Adds w [] w
adds_none w h = record { wrote = record { is = sym (put_none w.end w.out.now); ends = omega arith; fits = omega (arith, h.room) }; same = refl }

-- ---- a loop that adds text behind text

-- of n texts, those below i are added, and there is room for all
pub record Run (g : ℕ → List ℕ) (n : ℕ) (w : Writer) (i : ℕ) (w' : Writer) : Type 0 where
  pub added : Adds w (run_over i g) w'
  pub within : i ≤ n
  pub room : Fits w (run_over n g)

-- so many texts are no longer than all
runs_grow : (g : ℕ → List ℕ) (i k : ℕ) → length (run_over i g) ≤ length (run_over (i + k) g)
unfolding run_over
runs_grow g i zero = let e : i + 0 ≡ i = omega arith in subst (λ (m : ℕ). length (run_over i g) ≤ length (run_over m g)) (sym e) (omega arith)
runs_grow g i (suc k) =
    let e : i + suc k ≡ suc (i + k) = omega arith in
    subst (λ (m : ℕ). length (run_over i g) ≤ length (run_over m g)) (sym e) (omega (arith, runs_grow g i k, length-append (run_over (i + k) g) (g (i + k))))

module _ {g : ℕ → List ℕ} {n : ℕ} {w : Writer} where
  pub run_none : Fits w (run_over n g) → Run g n w 0 w
  unfolding run_over
  run_none h = record { added = adds_none w (record { room = omega (arith, h.room) }); within = omega arith; room = h }

  module _ {i : ℕ} {w' : Writer} (s : Run g n w i w') where
    pub run_fits : i < n → Fits w' (g i)
    unfolding run_over
    run_fits h =
        let e : suc i + (n - suc i) ≡ n = omega arith in
        let l : length (run_over i g ++ g i) ≤ length (run_over n g) =
        subst (λ (m : ℕ). length (run_over i g ++ g i) ≤ length (run_over m g)) e (runs_grow g (suc i) (n - suc i)) in
        fits_next s.added (g i) (record { room = omega (arith, l, s.room.room) })

    pub run_more : {w'' : Writer} → i < n → Adds w' (g i) w'' → Run g n w (i + 1) w''
    unfolding run_over
    run_more {w''} h x = record {
      added = subst (λ (m : ℕ). Adds w (run_over m g) w'') (sym (add-one i)) (adds_then s.added x);
      within = omega arith;
      room = s.room;
    }

    pub run_done : n ≤ i → Adds w (run_over n g) w'
    run_done h = let e : i ≡ n = omega (arith, s.within) in subst (λ (m : ℕ). Adds w (run_over m g) w') e s.added

-- lists that are short make a short text
pub runs_length : (g : ℕ → List ℕ) (m n : ℕ) → ((i : ℕ) → i < n → length (g i) ≤ m) → length (run_over n g) ≤ n * m
unfolding run_over
runs_length g m zero h = omega arith
runs_length g m (suc n) h =
    let l : length (run_over n g) ≤ n * m = runs_length g m n (λ i k. h i (omega arith)) in
    omega (arith, length-append (run_over n g) (g n), h n (omega arith), suc-mul n m)
