-- A proposition layer as it is read: cut out of the words, or word by word where it lies.
-- Assumes nothing.
use mathlib.Core.Path.{◌≡◌, sym, ap, ap₂, subst, ◌∙◌}
use mathlib.Core.Bool.{Bool}
use mathlib.Core.List.{List}
use mathlib.Core.Logic.{by_cases}
use Prim.Native.Nat.{ℕ, suc, ◌+◌, ◌-◌, ◌*◌, ◌≤◌, ◌<◌}
use native.Mathlib.Decide.{dec_le}
use native.Mathlib.Nat.{mul-le-mul, mul-le-mul_right}
use native.Mathlib.Numerals.{add-one}
use native.Mathlib.Omega.{arith}
use lib.ListN.{length, get_or, take, drop, length-drop}
use lib.Seq.{length-take-le, get_or-take, get_or-drop}
use Rattle.rules.specs.Test.{same}
use Rattle.rules.specs.Word.{common}
use Rattle.rules.specs.Over.{all_below}
use Rattle.rules.specs.Layer.{size, stride, props_in}
use Rattle.rules.specs.Level.{layer_rests}
use Rattle.rules.specs.declared.Shape.{Shape}
use Rattle.rules.proofs.Overs.{all_eq}
use Rattle.rules.proofs.Layouts.{count_stride, props_fit}
use Rattle.graph.specs.Checks.{Room}
use Rattle.graph.specs.Limits.{max_depth, max_layer}
use Rattle.level.specs.Meets.{PassedOver, same_at}

module _ {S : Shape} {k : ℕ} {w : List ℕ} (room : Room S k w) (t : ℕ) (h : t ≤ k) where
  -- layer t, up to the depth, lies within the words
  pub layer_fits : t * stride S + size S.props ≤ length w
  layer_fits = omega (arith, room.fits, props_fit S t k h)

  -- where there is room for the layers up to k, there is for fewer
  pub fewer : Room S t w
  fewer = record {
    small = room.small;
    deep = omega (arith, room.deep);
    fits = omega (arith, room.fits, count_stride S t, count_stride S k, mul-le-mul_right (stride S) h);
  }

-- layer t, cut out of the words
pub layer_part : (S : Shape) (t at end : ℕ) (w : List ℕ) → at ≡ t * stride S → end ≡ at + size S.props
    → take (end - at) (drop at w) ≡ props_in S w t
unfolding props_in
layer_part S t at end w e f =
    let long : end - at ≡ size S.props = omega arith in
    ap₂ (λ (n x : ℕ). take n (drop x w)) long e

pub part_length : (S : Shape) (t : ℕ) (w : List ℕ) → t * stride S + size S.props ≤ length w → length (props_in S w t) ≡ size S.props
unfolding props_in
part_length S t w h = length-take-le (size S.props) (drop (t * stride S) w) (omega (arith, length-drop (t * stride S) w))

pub layer_length : (w : List ℕ) (at count : ℕ) → at + count ≤ length w → length (take (at + count - at) (drop at w)) ≡ count
layer_length w at count h =
    let long : at + count - at ≡ count = omega arith in
    ap (λ (n : ℕ). length (take n (drop at w))) long ∙ length-take-le count (drop at w) (omega (arith, length-drop at w))

-- a word of it, where it lies
pub word_at : (S : Shape) (w : List ℕ) (t i : ℕ) → i < size S.props → get_or (props_in S w t) i 0 ≡ get_or w (t * stride S + i) 0
unfolding props_in
word_at S w t i h = get_or-take (size S.props) _ i 0 h ∙ get_or-drop (t * stride S) w i 0

-- words from a place on, cut out of two lists, are the same where those are
pub cut_same : (one other : List ℕ) (at n : ℕ) {k m : ℕ} {x : Bool} → k ≡ n → m ≡ n → at + n ≤ length one
    → x ≡ all_below (length (take k (drop at one))) (same_at (take k (drop at one)) (take m (drop at other)))
    → x ≡ all_below n (λ i. same_at one other (at + i))
cut_same one other at n {k} {m} {x} e f h told =
    let long : length (take k (drop at one)) ≡ n = length-take-le k (drop at one) (omega (arith, length-drop at one)) ∙ e in
    let word : (w : List ℕ) (j i : ℕ) → j ≡ n → i < n → get_or (take j (drop at w)) i 0 ≡ get_or w (at + i) 0 = λ w j i g l. get_or-take j (drop at w) i 0 (omega arith) ∙ get_or-drop at w i 0 in
    told ∙ ap (λ (j : ℕ). all_below j (same_at (take k (drop at one)) (take m (drop at other)))) long
    ∙ all_eq (λ i l. ap₂ same (word one k i e l) (word other m i f l))

-- and words at the front
pub front_same : (one other : List ℕ) (n : ℕ) {x : Bool} → length (take n one) ≡ n
    → x ≡ all_below (length (take n one)) (same_at (take n one) (take n other)) → x ≡ all_below n (same_at one other)
front_same one other n e told =
    told ∙ ap (λ (j : ℕ). all_below j (same_at (take n one) (take n other))) e
    ∙ all_eq (λ i l. ap₂ same (get_or-take n one i 0 l) (get_or-take n other i 0 l))

-- the first words of a layer
pub front_length : {S : Shape} {k : ℕ} {w : List ℕ} → Room S k w → (t count : ℕ) {l : List ℕ} → t ≤ k → count ≤ size S.props → l ≡ props_in S w t → length (take count l) ≡ count
front_length room t count {l} h g e =
    length-take-le count l (omega (arith, ap (λ (x : List ℕ). length x) e ∙ part_length _ _ _ (layer_fits room t h)))

-- where all words of a layer are compared, that is whether it equals the next one
pub rests_by : (S : Shape) (w : List ℕ) (t : ℕ) {count : ℕ} {x : Bool} → count ≡ size S.props
    → x ≡ all_below count (same_at (props_in S w t) (props_in S w (t + 1))) → x ≡ layer_rests S w t
unfolding layer_rests
rests_by S w t e told =
    told ∙ ap₂ (λ (n u : ℕ). all_below n (same_at (props_in S w t) (props_in S w u))) e (add-one t)

-- ---- layers that lie a step apart

-- a product of a layer's number and a step is small
pub steps_small : (t step : ℕ) → t ≤ max_depth + 1 → step ≤ 2 * max_layer → t * step ≤ 1064960
steps_small t step h k = mul-le-mul h k

-- one word a layer, at a place: of the layers from one on, none before t shows this of the set
pub record Passing (w : List ℕ) (k set place shows step from t : ℕ) : Type 0 where
  pub rises : from ≤ t
  pub within : t ≤ suc k
  pub each : (u : ℕ) → from ≤ u → u < t → common (get_or w (u * step + place) 0) set ≡ shows → ⊥

pub passing_none : {w : List ℕ} {k set place shows step from : ℕ} → from ≤ suc k → Passing w k set place shows step from from
passing_none {w} {k} {set} {place} {shows} {step} {from} h = record { rises = omega arith; within = h; each = λ u g l. absurd (omega arith) }

-- the place in a layer lies within the words
pub passing_in : {S : Shape} {k : ℕ} {w : List ℕ} {step place t : ℕ} → Room S k w → step ≡ stride S → place < size S.props → t ≤ k → t * step + place < length w
passing_in {S} {k} {w} {step} {place} {t} room e h l = omega (arith, ap (λ (x : ℕ). t * x) e, layer_fits room t l)

module _ {w : List ℕ} {k set place shows step from t : ℕ} (p : Passing w k set place shows step from t) where
  pub passing_more : t ≤ k → (common (get_or w (t * step + place) 0) set ≡ shows → ⊥) → Passing w k set place shows step from (t + 1)
  passing_more h e = record {
    rises = omega (arith, p.rises);
    within = omega arith;
    each = λ u g l s. by_cases (dec_le t u)
        (λ m. let same : u ≡ t = omega arith in e (ap (λ (x : ℕ). common (get_or w (x * step + place) 0) set) (sym same) ∙ s))
        (λ m. p.each u g (omega arith) s);
  }

  pub passing_done : {S : Shape} → step ≡ stride S → place < size S.props → PassedOver S w k set place shows from t
  passing_done {S} e h = record {
    rises = p.rises;
    within = p.within;
    each = λ u g l s. p.each u g l (ap (λ (x : ℕ). common x set)
        (ap (λ (x : ℕ). get_or w (u * x + place) 0) e ∙ sym (word_at S w u place h)) ∙ s);
  }

  -- after the last layer
  pub passing_end : {S : Shape} → step ≡ stride S → place < size S.props → k + 1 ≤ t → PassedOver S w k set place shows from (k + 1)
  passing_end {S} e h l = let last : t ≡ k + 1 = omega (arith, p.within) in subst (PassedOver S w k set place shows from) last (passing_done e h)
