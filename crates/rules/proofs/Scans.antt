-- The scan of a pair: what it leaves is the next mutex word, how many looks it takes, and the loops that carry it out.
-- Assumes nothing.
use mathlib.Core.Path.{◌≡◌, refl, sym, ap, ap₂, subst, ◌∙◌}
use mathlib.Core.Bool.{Bool, true, false, So}
use mathlib.Core.Logic.{⊎_elim}
use mathlib.Core.List.{List, [], ◌∷◌}
use Prim.Native.Nat.{ℕ, zero, suc, ◌+◌, ◌-◌, ◌*◌, ◌/◌, ◌%◌, ◌^◌, ◌≤◌, ◌<◌}
use native.Mathlib.Nat.{div-one, mod-lt, zero-lt-suc, add-zero, add-suc, zero-mul, suc-mul, le_of_suc-le-suc, eq-or-lt_of_le}
use native.Mathlib.Decide.{le_ind}
use native.Mathlib.Numerals.{add-one, one-add}
use native.Mathlib.Omega.{arith}
use lib.Count.{ones, ones_step}
use lib.Pow.{shr-shr}
use Rattle.rules.specs.Test.{◌and◌, ◌or◌, fails, same, below, choose}
use Rattle.rules.specs.Word.{bit, union, without, single, within, meets}
use Rattle.rules.specs.Over.{keep, join_over, meet_over, remove_over, count_below, sum_over}
use Rattle.rules.specs.Lists.{list_over, run_over}
use Rattle.rules.specs.Domain.{Domain, condition, persistence, needs_of, adds_of, deletes_of, siblings, clobbers, interfere_of, domain}
use Rattle.rules.specs.Layer.{pairs, size, pair_at, row_of, layer_of, paired, label_in, mutex_in, free_in}
use Rattle.rules.specs.Shared.{start_label, start_layer, needs_label, needs_apart, vertex_label, needs_mutex, vertex_mutex, action_layer, next_label, one_adds}
use Rattle.rules.specs.Shared.{two_add, next_mutex, next_layer, prop_from}
use Rattle.rules.specs.Scan.{Scan, scan_at, look, scan_over, scan_where, scan_of, look_ones, look_with, look_twos, scanned, others, all_looks}
use Rattle.rules.specs.Scan.{pair_looks, looks_of, step_looks, looks_from, looks_in}
use Rattle.rules.proofs.Tests.{choose_held, choose_failed, and_right, and_true, is_fails, fails_of, fails_at, holds_or, same_of, same_at, same_not}
use Rattle.rules.proofs.Words.{bit_union, bit_without, bit_zero, single_has, single_only, bit_below, without_lt, ext_all}
use Rattle.rules.proofs.Overs.{join_over_eq}
use Rattle.rules.proofs.Members.{bit_start_label}
use Rattle.rules.proofs.Rests.{rests}
use Rattle.rules.proofs.Lamp.{lamp, start}

-- ---- words

pub less_none : (a : ℕ) → without a 0 ≡ a
unfolding ◌and◌ fails
less_none a = ext_all (λ i. bit_without i a 0 ∙ ap (λ (x : Bool). bit i a and fails x) (bit_zero i) ∙ go (bit i a))
  where
    go : (x : Bool) → (x and fails false) ≡ x
    go true = refl
    go false = refl

none_less : (b : ℕ) → without 0 b ≡ 0
unfolding ◌and◌ fails
none_less b = ext_all (λ i. bit_without i 0 b ∙ ap (λ (x : Bool). x and fails (bit i b)) (bit_zero i) ∙ sym (bit_zero i))

pub less_union : (a b c : ℕ) → without (without a b) c ≡ without a (union b c)
unfolding ◌and◌ ◌or◌ fails
less_union a b c = ext_all (λ i.
    bit_without i (without a b) c ∙ ap (λ (x : Bool). x and fails (bit i c)) (bit_without i a b) ∙ go (bit i a) (bit i b) (bit i c)
    ∙ ap (λ (x : Bool). bit i a and fails x) (sym (bit_union i b c)) ∙ sym (bit_without i a (union b c)))
  where
    go : (x y z : Bool) → ((x and fails y) and fails z) ≡ (x and fails (y or z))
    go true true z = refl
    go true false z = refl
    go false y z = refl

-- what is removed one after the other is removed at once
pub remove_join : (n : ℕ) (f : ℕ → ℕ) (w : ℕ) → remove_over n f w ≡ without w (join_over n f)
unfolding remove_over join_over
remove_join zero f w = sym (less_none w)
remove_join (suc n) f w = ap (λ (x : ℕ). without x (f n)) (remove_join n f w) ∙ less_union w (join_over n f) (f n)

-- ---- what a turn of a scan does, be it one look or a row of them: it takes g away, it stays where nothing is left, and it counts h looks, all of them where something is left after it

pub record Turn (f : Scan → Scan) (g h : ℕ) : Type 0 where
  pub takes : (s : Scan) → (f s).left ≡ without s.left g
  pub ends : (s : Scan) → s.left ≡ 0 → f s ≡ s
  pub counts : (s : Scan) → ((f s).left ≡ 0 → ⊥) → (f s).looked ≡ s.looked + h
  pub most : (s : Scan) → (f s).looked ≤ s.looked + h

module _ (w : ℕ) where
  pub look_ended : (s : Scan) → s.left ≡ 0 → look w s ≡ s
  unfolding look
  look_ended s e = choose_held _ (same_of e)

  pub look_some : (s : Scan) → (s.left ≡ 0 → ⊥) → look w s ≡ scan_at (without s.left w) (suc s.looked)
  unfolding look
  look_some s e = choose_failed _ _ (fails_of (λ t. e (same_at t)))

  look_or : (P : Scan → Type 0) (s : Scan) → (s.left ≡ 0 → P s) → ((s.left ≡ 0 → ⊥) → P (scan_at (without s.left w) (suc s.looked))) → P (look w s)
  look_or P s a b = ⊎_elim
      (λ t. subst P (sym (look_ended s (same_at t))) (a (same_at t)))
      (λ t. let some : s.left ≡ 0 → ⊥ = λ e. fails_at t (same_of e) in subst P (sym (look_some s some)) (b some))
      (holds_or (same s.left 0))

  pub look_turn : Turn (look w) w 1
  look_turn = record {
    takes = λ s. look_or (λ r. r.left ≡ without s.left w) s (λ e. e ∙ sym (ap (λ (x : ℕ). without x w) e ∙ none_less w)) (λ e. refl);
    ends = look_ended;
    counts = λ s. look_or (λ r. (r.left ≡ 0 → ⊥) → r.looked ≡ s.looked + 1) s (λ e f. absurd (f e)) (λ e f. omega arith);
    most = λ s. look_or (λ r. r.looked ≤ s.looked + 1) s (λ e. omega arith) (λ e. omega arith);
  }

pub turn_if : {f : Scan → Scan} {g h : ℕ} (c : Bool) → Turn f g h → Turn (λ s. choose c (f s) s) (keep c g) (choose c h 0)
unfolding choose keep
turn_if true t = record { takes = t.takes; ends = t.ends; counts = t.counts; most = t.most }
turn_if false t = record { takes = λ s. sym (less_none s.left); ends = λ s e. refl; counts = λ s e. omega arith; most = λ s. omega arith }

pub turn_then : {f f' : Scan → Scan} {g g' h h' : ℕ} → Turn f g h → Turn f' g' h' → Turn (λ s. f' (f s)) (union g g') (h + h')
turn_then {f} {f'} {g} {g'} {h} {h'} t u = record {
  takes = λ s. u.takes (f s) ∙ ap (λ (x : ℕ). without x g') (t.takes s) ∙ less_union s.left g g';
  ends = λ s e. u.ends (f s) (ap (λ (r : Scan). r.left) (t.ends s e) ∙ e) ∙ t.ends s e;
  counts = λ s e.
      let before : (f s).left ≡ 0 → ⊥ = λ z. e (ap (λ (r : Scan). r.left) (u.ends (f s) z) ∙ z) in
      omega (arith, u.counts (f s) e, t.counts s before);
  most = λ s. omega (arith, u.most (f s), t.most s);
}

pub turn_over : (n : ℕ) (f : ℕ → Scan → Scan) (g h : ℕ → ℕ) → ((i : ℕ) → i < n → Turn (f i) (g i) (h i)) → Turn (scan_over n f) (join_over n g) (sum_over n h)
unfolding scan_over join_over sum_over
turn_over zero f g h t = record { takes = λ s. sym (less_none s.left); ends = λ s e. refl; counts = λ s e. omega arith; most = λ s. omega arith }
turn_over (suc n) f g h t = turn_then (turn_over n f g h (λ i l. t i (omega arith))) (t n (omega arith))

pub turn_where : (n : ℕ) (c : ℕ → Bool) (f : ℕ → Scan → Scan) (g h : ℕ → ℕ) → ((i : ℕ) → i < n → Turn (f i) (g i) (h i))
    → Turn (scan_where n c f) (join_over n (λ i. keep (c i) (g i))) (sum_over n (λ i. choose (c i) (h i) 0))
unfolding scan_where
turn_where n c f g h t = turn_over n (λ i s. choose (c i) (f i s) s) (λ i. keep (c i) (g i)) (λ i. choose (c i) (h i) 0) (λ i l. turn_if (c i) (t i l))

-- ---- sums and counts

pub sum_eq : (n : ℕ) (f g : ℕ → ℕ) → ((i : ℕ) → i < n → f i ≡ g i) → sum_over n f ≡ sum_over n g
unfolding sum_over
sum_eq zero f g h = refl
sum_eq (suc n) f g h = ap₂ ◌+◌ (sum_eq n f g (λ i l. h i (omega arith))) (h n (omega arith))

pub sum_add : (n : ℕ) (f g : ℕ → ℕ) → sum_over n f + sum_over n g ≡ sum_over n (λ i. f i + g i)
unfolding sum_over
sum_add zero f g = refl
sum_add (suc n) f g = omega (arith, sum_add n f g)

-- one for each index at which the test holds
pub sum_count : (n : ℕ) (c : ℕ → Bool) → sum_over n (λ i. choose (c i) 1 0) ≡ count_below n c
unfolding sum_over count_below
sum_count zero c = refl
sum_count (suc n) c = ap (λ (x : ℕ). x + choose (c n) 1 0) (sum_count n c)

-- m for each of them
sum_times : (n m : ℕ) (c : ℕ → Bool) → sum_over n (λ i. choose (c i) m 0) ≡ count_below n c * m
unfolding sum_over count_below choose
sum_times zero m c = sym (zero-mul m)
sum_times (suc n) m c = ap (λ (x : ℕ). x + choose (c n) m 0) (sum_times n m c) ∙ go (c n)
  where
    go : (b : Bool) → count_below n c * m + choose b m 0 ≡ (count_below n c + choose b 1 0) * m
    go true = sym (ap (λ (x : ℕ). x * m) (add-one (count_below n c)) ∙ suc-mul (count_below n c) m)
    go false = add-zero _ ∙ sym (ap (λ (x : ℕ). x * m) (add-zero (count_below n c)))

pub count_eq : (n : ℕ) (c d : ℕ → Bool) → ((i : ℕ) → i < n → c i ≡ d i) → count_below n c ≡ count_below n d
unfolding count_below
count_eq zero c d h = refl
count_eq (suc n) c d h = ap₂ (λ (x : ℕ) (b : Bool). x + choose b 1 0) (count_eq n c d (λ i l. h i (omega arith))) (h n (omega arith))

-- an index other than v passes as c says, v does not
other_passes : (v w : ℕ) (b : Bool) → (v ≡ w → ⊥) → (fails (same v w) and b) ≡ b
unfolding ◌and◌ fails
other_passes v w b h = rw (same_not h, fails, ◌and◌)

self_stays : (v : ℕ) (b : Bool) → (fails (same v v) and b) ≡ false
unfolding ◌and◌ fails
self_stays v b = rw (same_of {i = v} refl, fails, ◌and◌)

one_if : (a b : Bool) → a ≡ b → choose {A = ℕ} a 1 0 ≡ choose b 1 0
one_if a b e = ap (λ (x : Bool). choose {A = ℕ} x 1 0) e

-- those other than v, and v
count_other : (v n : ℕ) (c : ℕ → Bool) → v < n → choose (c v) 1 0 + count_below n (λ w. fails (same v w) and c w) ≡ count_below n c
unfolding count_below choose
count_other v zero c h = absurd (omega arith)
count_other v (suc n) c h = ⊎_elim
    (λ (e : v ≡ n).
    omega (
      arith,
      one_if _ _ (ap c e),
      one_if _ false (ap (λ (x : ℕ). fails (same v x) and c n) (sym e) ∙ self_stays v (c n)),
      count_eq n (λ w. fails (same v w) and c w) c (λ i l. other_passes v i (c i) (λ q. omega arith)),
    ))
    (λ (l : v < n). omega (arith, one_if _ _ (other_passes v n (c n) (λ q. omega arith)), count_other v n c l))
    (eq-or-lt_of_le (le_of_suc-le-suc h))

-- ---- the scan's two parts, and the whole

join_none : (n : ℕ) (f : ℕ → ℕ) → ((i : ℕ) → f i ≡ 0) → join_over n f ≡ 0
unfolding join_over
join_none zero f h = refl
join_none (suc n) f h = ap₂ union (join_none n f h) (h n)

-- a test in front of a union is a test of each part
keep_join : (n : ℕ) (b : Bool) (c d : ℕ → Bool) (f : ℕ → ℕ) → keep b (join_over n (λ w. keep (c w and d w) (f w))) ≡ join_over n (λ w. keep (c w and b and d w) (f w))
unfolding keep choose ◌and◌
keep_join n true c d f = refl
keep_join n false c d f = sym (join_none n (λ w. keep (c w and false) (f w)) (λ i. go (c i) (f i)))
  where
    go : (b : Bool) (w : ℕ) → keep (b and false) w ≡ 0
    go true w = refl
    go false w = refl

turn_taking : {f : Scan → Scan} {g g' h : ℕ} → g ≡ g' → Turn f g h → Turn f g' h
turn_taking {f} {g} {g'} {h} e t = subst (λ (x : ℕ). Turn f x h) e t

module _ (n : ℕ) (adds : ℕ → ℕ) (a : List ℕ) (p q : ℕ) where
  pub ones_turn : Turn (look_ones n adds a p q) (join_over n (one_adds adds a p q)) (count_below n (λ v. bit p (adds v) and bit q (adds v)))
  unfolding look_ones one_adds
  ones_turn = subst (Turn _ _) (sum_count n _) (turn_where n _ _ _ (λ v. 1) (λ v l. look_turn (label_in a v)))

  pub with_turn : (v : ℕ) → Turn (look_with n adds a q v) (join_over n (λ w. keep (fails (same v w) and bit q (adds w)) (free_in n a v w)))
      (others n adds q v)
  unfolding look_with others
  with_turn v = subst (Turn _ _) (sum_count n _) (turn_where n _ _ _ (λ w. 1) (λ w l. look_turn (free_in n a v w)))

  -- a row of pairs as the rule has it
  row_is : (v : ℕ) → keep (bit p (adds v)) (join_over n (λ w. keep (fails (same v w) and bit q (adds w)) (free_in n a v w))) ≡ join_over n (two_add n adds a p q v)
  unfolding two_add free_in
  row_is v = keep_join n (bit p (adds v)) (λ w. fails (same v w)) (λ w. bit q (adds w)) (free_in n a v)

  pub twos_turn : Turn (look_twos n adds a p q) (join_over n (λ v. join_over n (two_add n adds a p q v)))
      (sum_over n (λ v. choose (bit p (adds v)) (others n adds q v) 0))
  unfolding look_twos
  twos_turn = turn_taking (join_over_eq n (λ v l. row_is v)) (turn_where n _ _ _ _ (λ v l. with_turn v))

  -- 'The words are the same as before': what is left is the mutex word
  pub scanned_left : (both : ℕ) → (scanned n adds a both p q).left ≡ next_mutex n adds a both p q
  unfolding scanned next_mutex
  scanned_left both =
      twos_turn.takes (look_ones n adds a p q (scan_at both 0))
      ∙ ap (λ (x : ℕ). without x (join_over n (λ v. join_over n (two_add n adds a p q v)))) (ones_turn.takes (scan_at both 0) ∙ sym (remove_join n _ both))
      ∙ sym (remove_join n _ _)

  -- 'none where the labels share no state'
  pub scanned_none : scanned n adds a 0 p q ≡ scan_at 0 0
  unfolding scanned
  scanned_none = ap (look_twos n adds a p q) (ones_turn.ends (scan_at 0 0) refl) ∙ twos_turn.ends (scan_at 0 0) refl

  -- a scan that leaves something has looked at all there is
  pub scanned_all : (both : ℕ) → ((scanned n adds a both p q).left ≡ 0 → ⊥) → (scanned n adds a both p q).looked ≡ all_looks n adds p q
  unfolding scanned all_looks
  scanned_all both some = omega (arith, (turn_then ones_turn twos_turn).counts (scan_at both 0) some)

  -- so a pair that is mutex in some state was looked at in full
  pub looked_all : (both : ℕ) → (next_mutex n adds a both p q ≡ 0 → ⊥) → (scanned n adds a both p q).looked ≡ all_looks n adds p q
  looked_all both some = scanned_all both (λ e. some (sym (scanned_left both) ∙ e))

-- all there is to look at: each that adds p with each that adds q, where a vertex with itself stands for the look at the vertex
pub all_looks_lem : (n : ℕ) (adds : ℕ → ℕ) (p q : ℕ) → all_looks n adds p q ≡ count_below n (λ v. bit p (adds v)) * count_below n (λ v. bit q (adds v))
unfolding all_looks others choose ◌and◌
all_looks_lem n adds p q =
    ap (λ (x : ℕ). x + sum_over n (λ v. choose (bit p (adds v)) (others n adds q v) 0)) (sym (sum_count n (λ v. bit p (adds v) and bit q (adds v))))
    ∙ sum_add n _ _
    ∙ sum_eq n _ (λ v. choose (bit p (adds v)) (count_below n (λ w. bit q (adds w))) 0) (λ v l. each v l (bit p (adds v)))
    ∙ sum_times n (count_below n (λ w. bit q (adds w))) (λ v. bit p (adds v))
  where
    each : (v : ℕ) → v < n → (b : Bool) → choose (b and bit q (adds v)) 1 0 + choose b (others n adds q v) 0 ≡ choose b (count_below n (λ w. bit q (adds w))) 0
    each v l true = count_other v n (λ w. bit q (adds w)) l
    each v l false = refl

-- ---- a loop over the members of a set, lowest first, each taken out of the set when its turn is over: the scan of those that are left, from the numbers now, is the whole scan

-- equal tests and equal turns make equal scans
pub where_alike : (n : ℕ) (c d : ℕ → Bool) (f g : ℕ → Scan → Scan) (s : Scan) → ((i : ℕ) → i < n → c i ≡ d i) → ((i : ℕ) → i < n → (r : Scan) → f i r ≡ g i r)
    → scan_where n c f s ≡ scan_where n d g s
unfolding scan_where scan_over
where_alike zero c d f g s h k = refl
where_alike (suc n) c d f g s h k =
    ap₂ (λ (b : Bool) (r : Scan). choose b (f n r) r) (h n (omega arith)) (where_alike n c d f g s (λ i l. h i (omega arith)) (λ i l. k i (omega arith)))
    ∙ ap (λ (x : Scan). choose (d n) x (scan_where n d g s)) (k n (omega arith) (scan_where n d g s))

pub where_nobody : (n : ℕ) (c : ℕ → Bool) (f : ℕ → Scan → Scan) (s : Scan) → ((i : ℕ) → i < n → c i ≡ false) → scan_where n c f s ≡ s
unfolding scan_where scan_over choose
where_nobody zero c f s h = refl
where_nobody (suc n) c f s h =
    ap₂ (λ (b : Bool) (r : Scan). choose b (f n r) r) (h n (omega arith)) (where_nobody n c f s (λ i l. h i (omega arith)))

pub set_none : (n : ℕ) (f : ℕ → Scan → Scan) (s : Scan) → scan_of n 0 f s ≡ s
unfolding scan_of
set_none n f s = where_nobody n _ f s (λ i l. bit_zero i)

is_false : (b : Bool) → (So b → ⊥) → b ≡ false
is_false true h = absurd (h refl)
is_false false h = refl

-- v taken out of a set
out_self : (set v : ℕ) → bit v (without set (single v)) ≡ false
out_self set v = is_false _ (λ t. fails_at (and_right _ (sym (bit_without v set (single v)) ∙ t)) (single_has v refl))

pub out_other : (set v i : ℕ) → (v ≡ i → ⊥) → bit i (without set (single v)) ≡ bit i set
unfolding fails
out_other set v i h =
    bit_without i set (single v) ∙ ap (λ (b : Bool). bit i set and fails b) (is_false _ (λ t. h (sym (single_only refl t)))) ∙ and_true

pub out_bit : (set v i : ℕ) → bit i (without set (single v)) ≡ (fails (same v i) and bit i set)
out_bit set v i = ⊎_elim
    (λ t.
    let e : v ≡ i = same_at t in
    ap (λ (x : ℕ). bit x (without set (single v))) (sym e) ∙ out_self set v ∙ sym (ap (λ (x : ℕ). fails (same v x) and bit i set) (sym e) ∙ self_stays v _))
    (λ t. let d : v ≡ i → ⊥ = λ e. fails_at t (same_of e) in out_other set v i d ∙ sym (other_passes v i _ d))
    (holds_or (same v i))

-- the lowest member v first, then the others
pub set_next : (n rest v : ℕ) (f : ℕ → Scan → Scan) (s : Scan) → v < n → So (bit v rest) → ((i : ℕ) → i < v → So (bit i rest) → ⊥)
    → scan_of n rest f s ≡ scan_of n (without rest (single v)) f (f v s)
unfolding scan_of scan_where scan_over
set_next n rest v f s h t low =
    le_ind (λ k. scan_where k (λ i. bit i rest) f s ≡ scan_where k (λ i. bit i (without rest (single v))) f (f v s))
    (choose_held _ t ∙ ap (f v) (where_nobody v (λ i. bit i rest) f s (λ i l. is_false _ (low i l)))
    ∙ sym (choose_failed (bit v (without rest (single v))) _ (is_fails (out_self rest v))
    ∙ where_nobody v (λ i. bit i (without rest (single v))) f (f v s) (λ i l. out_other rest v i (λ e. omega arith) ∙ is_false _ (low i l))))
    (λ k g e. ap₂ (λ (b : Bool) (r : Scan). choose b (f k r) r) (sym (out_other rest v k (λ q. omega arith))) e) n h

where_ended : (n : ℕ) (c : ℕ → Bool) (f : ℕ → Scan → Scan) (s : Scan) → ((j : ℕ) (r : Scan) → r.left ≡ 0 → f j r ≡ r) → s.left ≡ 0 → scan_where n c f s ≡ s
unfolding scan_where scan_over choose
where_ended zero c f s stays e = refl
where_ended (suc n) c f s stays e =
    ap (λ (r : Scan). choose (c n) (f n r) r) (where_ended n c f s stays e) ∙ either (c n) (stays n s e)
  where
    either : (b : Bool) {x : Scan} → x ≡ s → choose b x s ≡ s
    either true q = q
    either false q = refl

-- 'ends once no start state remains': nothing is done
pub set_ended : (n rest : ℕ) (f : ℕ → Scan → Scan) (s : Scan) → ((j : ℕ) (r : Scan) → r.left ≡ 0 → f j r ≡ r) → s.left ≡ 0 → scan_of n rest f s ≡ s
unfolding scan_of
set_ended n rest f s stays e = where_ended n (λ i. bit i rest) f s stays e

-- ---- many looks at once

-- index 0 apart
count_low : (n : ℕ) (c : ℕ → Bool) → count_below (suc n) c ≡ choose (c 0) 1 0 + count_below n (λ i. c (suc i))
unfolding count_below
count_low zero c = omega arith
count_low (suc n) c = omega (arith, count_low n c)

low_one : (w : ℕ) → choose (bit 0 w) 1 0 ≡ w % 2
unfolding bit same choose
low_one w = ap (λ (x : ℕ). choose {A = ℕ} (same (x % 2) 1) 1 0) (div-one w) ∙ go (w % 2) (mod-lt w (zero-lt-suc 1))
  where
    go : (d : ℕ) → d < 2 → choose (same d 1) 1 0 ≡ d
    go zero h = refl
    go (suc zero) h = refl
    go (suc (suc d)) h = absurd (omega arith)

bit_half : (i w : ℕ) → bit (suc i) w ≡ bit i (w / 2)
unfolding bit
bit_half i w = ap (λ (x : ℕ). same (x % 2) 1) (ap (λ (k : ℕ). w / 2 ^ k) (sym (one-add i)) ∙ sym (shr-shr w 1 i))

-- the members below n of a set that has no others. In code: `u64::count_ones(w)`
pub count_ones : (n w : ℕ) → w < 2 ^ n → count_below n (λ i. bit i w) ≡ ones w
unfolding count_below ones
count_ones zero w h = let e : w ≡ 0 = omega arith in sym (ap ones e)
count_ones (suc n) w h =
    count_low n (λ i. bit i w)
    ∙ ap₂ ◌+◌ (low_one w) (count_eq n (λ i. bit (suc i) w) (λ i. bit i (w / 2)) (λ i l. bit_half i w) ∙ count_ones n (w / 2) (omega arith))
    ∙ sym (ones_step w)

-- one taken out
pub ones_out : (n w v : ℕ) → w < 2 ^ n → So (bit v w) → ones (without w (single v)) + 1 ≡ ones w
unfolding choose
ones_out n w v h t =
    omega (
      arith,
      count_ones n w h,
      count_ones n (without w (single v)) (without_lt n (single v) h),
      count_other v n (λ i. bit i w) (bit_below h t),
      count_eq n (λ i. bit i (without w (single v))) (λ i. fails (same v i) and bit i w) (λ i l. out_bit w v i),
      choose_held {A = ℕ} {b = bit v w} {x = 1} 0 t,
    )

-- ---- the adders of p and of q as sets of vertices

-- the set A has the vertices that add p, of n
pub record Adders (n : ℕ) (adds : ℕ → ℕ) (p set : ℕ) : Type 0 where
  pub small : set < 2 ^ n
  pub are : (v : ℕ) → v < n → bit v set ≡ bit p (adds v)

pub adders_told : (n m : ℕ) (adders : ℕ → ℕ) (p : ℕ) → p < m → adders p < 2 ^ n → Adders n (start_label m adders) p (adders p)
adders_told n m adders p h l = record { small = l; are = λ v g. sym (bit_start_label adders v h) }

module _ (n : ℕ) (adds : ℕ → ℕ) (a : List ℕ) (p q A B : ℕ) (𝓐 : Adders n adds p A) (𝓑 : Adders n adds q B) where
  others_bit : (v w : ℕ) → w < n → (fails (same v w) and bit q (adds w)) ≡ bit w (without B (single v))
  others_bit v w l = ap (λ (b : Bool). fails (same v w) and b) (sym (𝓑.are w l)) ∙ sym (out_bit B v w)

  pub others_ones : (v : ℕ) → others n adds q v ≡ ones (without B (single v))
  unfolding others
  others_ones v = count_eq n _ _ (others_bit v) ∙ count_ones n (without B (single v)) (without_lt n (single v) 𝓑.small)

  -- by their sets
  pub all_ones : all_looks n adds p q ≡ ones A * ones B
  all_ones = all_looks_lem n adds p q ∙ ap₂ ◌*◌ (adders_ones p A 𝓐) (adders_ones q B 𝓑)
    where
      adders_ones : (r S : ℕ) → Adders n adds r S → count_below n (λ v. bit r (adds v)) ≡ ones S
      adders_ones r S 𝓢 = sym (count_eq n _ _ 𝓢.are) ∙ count_ones n S 𝓢.small

-- ---- the loop over the members of a set that takes each out: what holds at its head, where it starts, a member, a look, its ends

-- `whole` is the scan of those that are left, from the numbers now
pub record ScanningOf (f : ℕ → Scan → Scan) (whole : Scan) (n rest left looked : ℕ) : Type 0 where
  pub small : rest < 2 ^ n
  pub is : whole ≡ scan_of n rest f (scan_at left looked)

pub of_none : {f : ℕ → Scan → Scan} {n set left looked : ℕ} → set < 2 ^ n → ScanningOf f (scan_of n set f (scan_at left looked)) n set left looked
of_none h = record { small = h; is = refl }

module _ {f : ℕ → Scan → Scan} {whole : Scan} {n rest left looked : ℕ} (m : ScanningOf f whole n rest left looked) where
  -- v is the lowest that is left
  pub of_more : {v rest' left' looked' : ℕ} → So (bit v rest) → ((i : ℕ) → i < v → So (bit i rest) → ⊥) → rest' ≡ without rest (single v)
      → f v (scan_at left looked) ≡ scan_at left' looked' → ScanningOf f whole n rest' left' looked'
  of_more {v} {rest'} t low e q = record {
    small = subst (λ (x : ℕ). x < 2 ^ n) (sym e) (without_lt n (single v) m.small);
    is = m.is ∙ set_next n rest v f (scan_at left looked) (bit_below m.small t) t low ∙ ap₂ (λ (x : ℕ) (r : Scan). scan_of n x f r) (sym e) q;
  }

  pub of_done : rest ≡ 0 → whole ≡ scan_at left looked
  of_done e = m.is ∙ ap (λ (x : ℕ). scan_of n x f (scan_at left looked)) e ∙ set_none n f (scan_at left looked)

  pub of_ended : ((j : ℕ) (r : Scan) → r.left ≡ 0 → f j r ≡ r) → left ≡ 0 → whole ≡ scan_at left looked
  of_ended stays e = m.is ∙ set_ended n rest f (scan_at left looked) stays e

-- a look while something is left
pub of_look : (word : ℕ → ℕ) {whole : Scan} {n v rest rest' left looked left' looked' : ℕ} → ScanningOf (λ j. look (word j)) whole n rest left looked
    → So (bit v rest) → ((i : ℕ) → i < v → So (bit i rest) → ⊥) → rest' ≡ without rest (single v)
    → 0 < left → left' ≡ without left (word v) → looked' ≡ looked + 1 → ScanningOf (λ j. look (word j)) whole n rest' left' looked'
of_look word {v = v} {left = left} {looked = looked} m t low e some w k =
    of_more m t low e (look_some (word v) (scan_at left looked) (λ z. omega arith) ∙ sym (ap₂ scan_at w (k ∙ add-one looked)))

-- ---- the looks of a step, and of a build

-- the same x from r on
sum_same : (f : ℕ → ℕ) (r x : ℕ) → ((j : ℕ) → r ≤ j → f j ≡ x) → (m : ℕ) → sum_over (r + m) f ≡ sum_over r f + m * x
unfolding sum_over
sum_same f r x h zero = omega (arith, ap (λ (k : ℕ). sum_over k f) (add-zero r), zero-mul x)
sum_same f r x h (suc m) = omega (arith, ap (λ (k : ℕ). sum_over k f) (add-suc r m), sum_same f r x h m, h (r + m) (omega arith), suc-mul m x)

module _ (D : Domain) (all : ℕ) (l : List ℕ) where
  -- where layer r equals the next one, each step from r on counts the same
  module _ (r : ℕ) (rest : prop_from D all l r ≡ prop_from D all l (suc r)) where
    -- a build that stops stepping behind the step at the rest, and multiplies: `looked + (k - done) * last`
    pub looks_left : (k done looked last : ℕ) → done ≡ r + 1 → done ≤ k → looked ≡ looks_from D all l done → last ≡ step_looks D all (prop_from D all l r)
        → looks_from D all l k ≡ looked + (k - done) * last
    unfolding looks_from
    looks_left k done looked last e h q g =
        let s : done + (k - done) ≡ k = omega arith in
        ap (looks_from D all l) (sym s)
        ∙ sum_same (λ t. step_looks D all (prop_from D all l t)) done last
        (λ j b. ap (step_looks D all) (rests D all l {t = r} rest {u = j} (omega arith)) ∙ sym g) (k - done) ∙ ap (λ (x : ℕ). x + (k - done) * last) (sym q)

-- ---- figures, computed by the checker

-- 'Lamp, depth 2: 12', of which 5 in the first step. At the rest, from layer 2 on, each step looks 7 times.
pub lamp_looks : (looks_in (domain lamp) 2 start 2 ≡ 12) × (looks_in (domain lamp) 2 start 1 ≡ 5) × (looks_in (domain lamp) 2 start 3 ≡ 19)
unfolding lamp start ◌and◌ ◌or◌ fails same below choose bit within meets keep join_over meet_over remove_over count_below list_over run_over condition persistence needs_of
    adds_of deletes_of siblings clobbers interfere_of domain pairs size pair_at row_of layer_of paired label_in mutex_in free_in start_label start_layer needs_label needs_apart vertex_label
    needs_mutex vertex_mutex action_layer next_label one_adds two_add next_mutex next_layer prop_from look scan_over scan_where look_ones look_with look_twos
    scanned sum_over pair_looks looks_of step_looks looks_from
lamp_looks = (refl, refl, refl)

-- two vertices add both propositions: settled by the second vertex, before any pair
pub vertices_first : scanned 2 (λ v. 3) (1 ∷ 2 ∷ 0 ∷ []) 3 0 1 ≡ scan_at 0 2
unfolding ◌and◌ fails same choose bit label_in mutex_in paired pair_at pairs size free_in look scan_over scan_where look_ones look_with look_twos scanned
vertices_first = refl

-- state 2 stays: two vertices and two pairs, no vertex with itself
pub no_self : scanned 2 (λ v. 3) (1 ∷ 2 ∷ 0 ∷ []) 7 0 1 ≡ scan_at 4 4
unfolding ◌and◌ fails same choose bit label_in mutex_in paired pair_at pairs size free_in look scan_over scan_where look_ones look_with look_twos scanned
no_self = refl
