-- What holds at the heads of the loops that prepare the masks and compare pieces, and what a state does in a move.
-- Assumes nothing.
use mathlib.Core.Path.{◌≡◌, refl, sym, ap, subst, ◌∙◌}
use mathlib.Core.Bool.{Bool, true, false, So}
use Prim.Native.Nat.{ℕ, suc, ◌+◌, ◌-◌, ◌*◌, ◌/◌, ◌%◌, ◌^◌, ◌≤◌, ◌<◌}
use borrow.Author.Count.{below_more}
use native.Mathlib.Decide.{le_ind}
use native.Mathlib.Numerals.{add-one}
use native.Mathlib.Omega.{arith}
use lib.Count.{count_trailing_zeros}
use lib.Bits.{bit_or, bit_xor, and_le_l, and_le_r, or_add_and, xor_add_and}
use lib.Pow.{pow_pos}
use Rattle.rules.specs.Test.{◌and◌, fails, same, choose}
use Rattle.rules.specs.Word.{bit, union, without, single}
use Rattle.rules.specs.Over.{keep, join_over, join_of, count_below}
use Rattle.rules.specs.Extract.{rank}
use Rattle.rules.proofs.Tests.{same_of, same_not, fails_of}
use Rattle.rules.proofs.Words.{shift_single, bit_without, bit_single, without_lt}
use Rattle.rules.proofs.Overs.{join_over_eq}
use Rattle.rules.proofs.Extracts.{rank_in, rank_out}
use Rattle.words.specs.Width.{state_width}
use Rattle.words.proofs.MemberLoops.{Members, members_none, members_more, members_done, lowest_in, lowest_lt}
use Rattle.words.proofs.Lowest.{lowest_least, others_above}
use Rattle.extract.specs.Moves.{gap, going, most_moves, place, moving, piece_words}
use Rattle.extract.proofs.Moves.{mod_le, rank_le}

-- ---- one state

-- a shift by 1 << i
pub shift_is : (i : ℕ) → i < most_moves → 1 * 2 ^ i % 2 ^ state_width ≡ 2 ^ i
shift_is i h = shift_single state_width (omega arith)

pub shift_some : (i : ℕ) → i < most_moves → 0 < 1 * 2 ^ i % 2 ^ state_width
shift_some i h = omega (arith, shift_is i h, pow_pos i)

-- what is left of a state's number by 1 << i
pub left_le : (s g i : ℕ) → g ≤ s → i < most_moves → g % (1 * 2 ^ i % 2 ^ state_width) ≤ s
left_le s g i l h = omega (arith, ap (λ (x : ℕ). g % x) (shift_is i h), mod_le g i)

-- one state in one move
module _ (s gap i : ℕ) where
  pub moves_not : (gap / 2 ^ i % 2 ≡ 1 → ⊥) → 0 ≡ keep (bit i gap) (single (s - gap % 2 ^ i))
  unfolding keep choose bit
  moves_not f = simp (same_not f)

  pub moves_now : (r : ℕ) → gap / 2 ^ i % 2 ≡ 1 → i < most_moves → r ≡ single (s - gap % (1 * 2 ^ i % 2 ^ state_width))
      → r ≡ keep (bit i gap) (single (s - gap % 2 ^ i))
  unfolding keep choose bit
  moves_now r f h q = q ∙ ap (λ (x : ℕ). single (s - gap % x)) (shift_is i h) ∙ simp (same_of f)

stays : (b : Bool) → (b and fails false) ≡ b
unfolding ◌and◌ fails
stays true = refl
stays false = refl

-- ---- loops over the members of the set: those that are left are the members from some state on, and so many lie below it

pub record Ranked (set left under : ℕ) : Type 0 where
  pub small : left < 2 ^ state_width
  pub from : ℕ
  pub past : (i : ℕ) → i < from → So (bit i left) → ⊥
  pub ahead : (i : ℕ) → from ≤ i → bit i left ≡ bit i set
  pub ranks : under ≡ rank set from

pub ranked_all : {set : ℕ} → set < 2 ^ state_width → Ranked set set 0
unfolding rank count_below
ranked_all h = record { small = h; from = 0; past = λ i l t. omega arith; ahead = λ i l. refl; ranks = refl }

-- no state of the set between two states: as many lie below
rank_skip : (set a b : ℕ) → a ≤ b → ((i : ℕ) → a ≤ i → i < b → So (bit i set) → ⊥) → rank set b ≡ rank set a
rank_skip set a b h none = le_ind (λ k. k ≤ b → rank set k ≡ rank set a) (λ l. refl)
    (λ k g r l. rank_out set k (fails_of (none k g (omega arith))) ∙ r (omega arith)) b h (omega arith)

module _ {set left under : ℕ} (m : Ranked set left under) (some : 0 < left) where
  in_left : So (bit (count_trailing_zeros state_width left) left)
  in_left = lowest_in state_width left (omega arith) m.small some

  from_le : m.from ≤ count_trailing_zeros state_width left
  from_le = let g : count_trailing_zeros state_width left < m.from → ⊥ = λ l. m.past _ l in_left in omega arith

  pub next_lt : count_trailing_zeros state_width left < state_width
  next_lt = lowest_lt state_width left (omega arith) m.small some

  pub next_in : So (bit (count_trailing_zeros state_width left) set)
  next_in = sym (m.ahead _ from_le) ∙ in_left

  -- so many states of the set lie below the next one
  pub next_rank : under ≡ rank set (count_trailing_zeros state_width left)
  next_rank = m.ranks ∙ sym (rank_skip set m.from (count_trailing_zeros state_width left) from_le (λ i g l t.
      omega (arith, lowest_least state_width left i m.small (m.ahead i g ∙ t))))

  pub next_under : under ≤ count_trailing_zeros state_width left
  next_under = omega (arith, next_rank, rank_le set (count_trailing_zeros state_width left))

  pub next_gap : count_trailing_zeros state_width left - under ≡ gap set (count_trailing_zeros state_width left)
  unfolding gap
  next_gap = ap (λ (x : ℕ). count_trailing_zeros state_width left - x) next_rank

  pub ranked_more : {left' : ℕ} → left' ≡ without left (single (count_trailing_zeros state_width left)) → Ranked set left' (under + 1)
  ranked_more {left'} l = record {
    small = subst (λ (x : ℕ). x < 2 ^ state_width) (sym l) (without_lt state_width _ m.small);
    from = suc (count_trailing_zeros state_width left);
    past = λ i h t. omega (arith, others_above state_width left i m.small (sym (ap (bit i) l) ∙ t));
    ahead = λ i h. ap (bit i) l ∙ bit_without i left (single (count_trailing_zeros state_width left))
        ∙ ap (λ (b : Bool). bit i left and fails b) (bit_single i (count_trailing_zeros state_width left) ∙ same_not (λ e. omega arith))
        ∙ stays (bit i left) ∙ m.ahead i (omega (arith, from_le));
    ranks = add-one under ∙ ap suc next_rank ∙ sym (rank_in set (count_trailing_zeros state_width left) next_in);
  }

-- what f gives for them, joined
pub record Masked (f : ℕ → ℕ) (set left under mask : ℕ) : Type 0 where
  pub ranked : Ranked set left under
  pub joins : Members f 0 state_width set left mask

pub mask_none : {f : ℕ → ℕ} {set : ℕ} → set < 2 ^ state_width → Masked f set set 0 0
mask_none h = record { ranked = ranked_all h; joins = members_none h }

pub mask_more : {f : ℕ → ℕ} {set left under mask b left' : ℕ} → Masked f set left under mask → 0 < left → b ≡ f (count_trailing_zeros state_width left)
    → left' ≡ without left (single (count_trailing_zeros state_width left)) → Masked f set left' (under + 1) (union mask b)
mask_more m some q l = record { ranked = ranked_more m.ranked some l; joins = members_more m.joins (omega arith) some q refl l }

keep_keep : (a b : Bool) (w : ℕ) → keep a (keep b w) ≡ keep (a and b) w
unfolding keep choose ◌and◌
keep_keep true b w = refl
keep_keep false b w = refl

mask_done : {f : ℕ → ℕ} {set left under mask : ℕ} (T : ℕ → Bool) (p : ℕ → ℕ) → Masked f set left under mask → left ≤ 0
    → ((s : ℕ) → f s ≡ keep (T s) (single (p s))) → mask ≡ join_over state_width (λ s. keep (bit s set and T s) (single (p s)))
unfolding join_of
mask_done {f} {set} T p m h e =
    members_done m.joins h ∙ join_over_eq state_width (λ s l. ap (keep (bit s set)) (e s) ∙ keep_keep (bit s set) (T s) (single (p s)))

-- the mask of a move
abbrev pub moving_at : ℕ → ℕ → ℕ → ℕ
moving_at set i s = keep (bit i (gap set s)) (single (place set i s))

pub moving_next : {set left under s b : ℕ} (i : ℕ) → Ranked set left under → 0 < left → s ≡ count_trailing_zeros state_width left
    → b ≡ keep (bit i (s - under)) (single (s - (s - under) % 2 ^ i)) → b ≡ moving_at set i (count_trailing_zeros state_width left)
unfolding place
moving_next {set} {left} {under} i m some e q =
    q ∙ ap (λ (x : ℕ). keep (bit i (x - under)) (single (x - (x - under) % 2 ^ i))) e
    ∙ ap (λ (x : ℕ). keep (bit i x) (single (count_trailing_zeros state_width left - x % 2 ^ i))) (next_gap m some)

pub moving_done : {set left under mask : ℕ} (i : ℕ) → Masked (moving_at set i) set left under mask → left ≤ 0 → mask ≡ moving state_width set i
unfolding moving
moving_done {set} i m h = mask_done (λ s. bit i (gap set s)) (place set i) m h (λ s. refl)

-- those that have so far to go
abbrev pub going_at : ℕ → ℕ → ℕ → ℕ
going_at set far s = keep (same (gap set s) far) (single s)

pub going_next : {set left under s b : ℕ} (far : ℕ) → Ranked set left under → 0 < left → s ≡ count_trailing_zeros state_width left
    → b ≡ keep (same (s - under) far) (single s) → b ≡ going_at set far (count_trailing_zeros state_width left)
going_next {set} {left} {under} far m some e q =
    q ∙ ap (λ (x : ℕ). keep (same (x - under) far) (single x)) e
    ∙ ap (λ (x : ℕ). keep (same x far) (single (count_trailing_zeros state_width left))) (next_gap m some)

pub going_done : {set left under mask : ℕ} (far : ℕ) → Masked (going_at set far) set left under mask → left ≤ 0 → mask ≡ going set far
unfolding going
going_done {set} far m h = mask_done (λ s. same (gap set s) far) (λ s. s) m h (λ s. refl)

-- ---- pieces

-- a union is empty where both are
pub none_joined : (a b : ℕ) → union a b ≡ 0 → (a ≡ 0) × (b ≡ 0)
none_joined a b e = (omega (arith, or_add_and a b, and_le_l a b, and_le_r a b), omega (arith, or_add_and a b, and_le_l a b, and_le_r a b))

-- where nothing differs among the first i words, each is the same as the other
pub record Matched (one other : ℕ → ℕ) (i differ : ℕ) : Type 0 where
  pub within : i ≤ piece_words
  pub each : differ ≡ 0 → (k : ℕ) → k < i → one k ≡ other k

pub matched_none : {one other : ℕ → ℕ} → Matched one other 0 0
matched_none = record { within = omega arith; each = λ e k h. absurd (omega arith) }

xor_same : (a b : ℕ) → bit_xor a b ≡ 0 → a ≡ b
xor_same a b e = omega (arith, xor_add_and a b, and_le_l a b, and_le_r a b)

pub matched_more : {one other : ℕ → ℕ} {i differ : ℕ} → Matched one other i differ → i < piece_words
    → Matched one other (i + 1) (bit_or differ (bit_xor (one i) (other i)))
matched_more {one} {other} {i} {differ} m h = record {
  within = omega arith;
  each = λ e k l.
      let (a, b) = none_joined differ (bit_xor (one i) (other i)) e in
      below_more (λ j. one j ≡ other j) i (m.each a) (xor_same (one i) (other i) b) k l;
}
