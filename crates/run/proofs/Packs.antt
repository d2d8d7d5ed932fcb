-- Two words of propositions in one: its bits, and those of what a step leaves and brings.
-- Assumes nothing.
use Prim.Native.Nat.{ℕ, ◌+◌, ◌-◌, ◌*◌, ◌%◌, ◌^◌, ◌<◌}
use mathlib.Core.Path.{◌≡◌, refl, sym, ap, ap₂, subst, ◌∙◌}
use mathlib.Core.Bool.{Bool, true, false}
use mathlib.Core.Logic.{by_cases}
use native.Mathlib.Decide.{dec_lt}
use native.Mathlib.Omega.{arith}
use lib.Bits.{and_block, and_zero_r, and_zero_l, and_mask}
use lib.Pow.{pow_pos, shl-shr}
use Rattle.rules.specs.Test.{◌and◌, ◌or◌, fails}
use Rattle.rules.specs.Word.{bit, common, without, first}
use Rattle.rules.proofs.Tests.{and_true, below_of}
use Rattle.rules.proofs.Words.{bit_common, bit_union, bit_without, bit_first, bit_zero, bit_above, bit_shift, bit_rest, ext, union_lt, without_lt}
use Rattle.words.specs.Width.{prop_width, word_width}
use Rattle.run.specs.Course.{pack, leaves, brings}

-- ---- a word moved up, and one cut

or_none : (a : Bool) → (a or false) ≡ a
unfolding ◌or◌
or_none true = refl
or_none false = refl

pub up_low : (x k p : ℕ) → p < k → bit p (x * 2 ^ k) ≡ false
up_low x k p h =
    sym and_true
    ∙ ap (λ (b : Bool). bit p (x * 2 ^ k) and b) (sym (bit_first p k ∙ below_of h))
    ∙ sym (bit_common p (x * 2 ^ k) (first k)) ∙ ap (bit p) gone ∙ bit_zero p
  where
    gone : common (x * 2 ^ k) (first k) ≡ 0
    gone =
        let e : x * 2 ^ k ≡ x * 2 ^ k + 0 = omega arith in
        let f : first k ≡ 0 * 2 ^ k + first k = omega arith in
        ap₂ common e f ∙ and_block k x 0 0 (first k) (pow_pos k) (omega (arith, pow_pos k))
        ∙ ap₂ (λ (u v : ℕ). u * 2 ^ k + v) (and_zero_r x) (and_zero_l (first k)) ∙ omega arith

pub up_high : (x k p : ℕ) → bit (k + p) (x * 2 ^ k) ≡ bit p x
up_high x k p = sym (bit_shift (x * 2 ^ k) k p) ∙ ap (bit p) (shl-shr x k)

pub cut_bit : (x k p : ℕ) → p < k → bit p (x % 2 ^ k) ≡ bit p x
cut_bit x k p h =
    ap (bit p) (sym (and_mask x k)) ∙ bit_common p x (first k) ∙ ap (λ (b : Bool). bit p x and b) (bit_first p k ∙ below_of h) ∙ and_true

-- ---- both in one

pub pack_lt : {low high : ℕ} → low < 2 ^ prop_width → high < 2 ^ prop_width → pack low high < 2 ^ word_width
unfolding pack
pack_lt {low} {high} l h = union_lt word_width {a = low} {b = high * 2 ^ prop_width} (omega (arith, l)) (omega (arith, h))

module _ (low high p : ℕ) (l : low < 2 ^ prop_width) where
  pub pack_low : p < prop_width → bit p (pack low high) ≡ bit p low
  unfolding pack
  pack_low h =
      bit_union p low (high * 2 ^ prop_width) ∙ ap (λ (b : Bool). bit p low or b) (up_low high prop_width p h) ∙ or_none (bit p low)

  pub pack_high : bit (prop_width + p) (pack low high) ≡ bit p high
  unfolding pack ◌or◌
  pack_high =
      bit_union (prop_width + p) low (high * 2 ^ prop_width)
      ∙ ap₂ (λ (a b : Bool). a or b) (bit_above {n = prop_width} l (omega arith)) (up_high high prop_width p)

-- two words whose halves have the same bits
pub halves : {a b : ℕ} → a < 2 ^ word_width → b < 2 ^ word_width → ((p : ℕ) → p < prop_width → bit p a ≡ bit p b)
    → ((p : ℕ) → p < prop_width → bit (prop_width + p) a ≡ bit (prop_width + p) b) → a ≡ b
halves {a} {b} h l low high = ext {n = word_width} h l (λ i k. by_cases (dec_lt i prop_width) (low i) (λ n.
    let e : prop_width + (i - prop_width) ≡ i = omega arith in
    subst (λ (q : ℕ). bit q a ≡ bit q b) e (high (i - prop_width) (omega arith))))

-- ---- what a step leaves and brings

pub leaves_lt : (del add : ℕ) → leaves del add < 2 ^ word_width
unfolding leaves
leaves_lt del add = omega arith

pub brings_lt : {del add : ℕ} → del < 2 ^ prop_width → add < 2 ^ prop_width → brings del add < 2 ^ word_width
unfolding brings
brings_lt {del} {add} d a = pack_lt (without_lt prop_width add d) a

module _ (del add p : ℕ) (d : del < 2 ^ prop_width) where
  pub brings_low : p < prop_width → bit p (brings del add) ≡ (bit p del and fails (bit p add))
  unfolding brings
  brings_low h = pack_low (without del add) add p (without_lt prop_width add d) h ∙ bit_without p del add

  pub brings_high : bit (prop_width + p) (brings del add) ≡ bit p add
  unfolding brings
  brings_high = pack_high (without del add) add p (without_lt prop_width add d)

  module _ (a : add < 2 ^ prop_width) (h : p < prop_width) where
    rest : (q : ℕ) → q < word_width → bit q (leaves del add) ≡ fails (bit q (pack add (without del add)))
    unfolding leaves
    rest q l = bit_rest q word_width l (pack_lt a (without_lt prop_width add d))

    pub leaves_low : bit p (leaves del add) ≡ fails (bit p add)
    leaves_low = rest p (omega (arith, h)) ∙ ap fails (pack_low add (without del add) p a h)

    pub leaves_high : bit (prop_width + p) (leaves del add) ≡ fails (bit p del and fails (bit p add))
    leaves_high = rest (prop_width + p) (omega (arith, h)) ∙ ap fails (pack_high add (without del add) p a ∙ bit_without p del add)
