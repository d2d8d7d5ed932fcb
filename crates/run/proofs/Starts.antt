-- Version 1: loops over the states of a set, before the first step and after the last.
-- Assumes nothing.
use Prim.Native.Nat.{ℕ, zero, suc, ◌+◌, ◌^◌, ◌≤◌, ◌<◌}
use mathlib.Core.Path.{◌≡◌, refl, sym, ap, ap₂, subst, ◌∙◌}
use mathlib.Core.List.{List, ◌++◌}
use native.Mathlib.Numerals.{add-one}
use native.Mathlib.Omega.{arith}
use lib.Bits.{or_zero_l}
use lib.Count.{count_trailing_zeros}
use lib.ListN.{length, get_or, set, take, drop}
use lib.Seq.{length-take-le}
use Rattle.rules.specs.Test.{choose}
use Rattle.rules.specs.Word.{bit, common, union, without, single, first}
use Rattle.rules.specs.Over.{join_over, meet_over, join_of, meet_of}
use Rattle.rules.specs.Lists.{list_over}
use Rattle.rules.proofs.Tests.{choose_held, below_of}
use Rattle.rules.proofs.Overs.{join_over_eq, join_over_next, keep_held}
use Rattle.rules.proofs.Words.{bit_first}
use Rattle.rules.proofs.Layers.{length_list_over, get_d_list_over, list_over_eq}
use Rattle.words.specs.Width.{prop_width, word_width}
use Rattle.words.specs.Memory.{put_at}
use Rattle.words.proofs.MemberLoops.{Members, members_none, members_more, members_done, Shares, shares_none, shares_more, shares_done}
use Rattle.words.proofs.Writes.{put_take, put_rest}
use Rattle.run.specs.Course.{came, sets_of}

-- ---- what all states of a set have, and what some of them have: of its members, one after the other

pub record Sharing (f : ℕ → ℕ) (n set left all some : ℕ) : Type 0 where
  pub few : n ≤ word_width
  pub met : Shares f (first prop_width) n set left all
  pub joined : Members f 0 n set left some

pub sharing_none : {f : ℕ → ℕ} {n set all : ℕ} → n ≤ word_width → set < 2 ^ n → all ≡ first prop_width → Sharing f n set set all 0
sharing_none {f} {n} {set} l h e = record {
  few = l;
  met = subst (Shares f (first prop_width) n set set) (sym e) (shares_none h);
  joined = members_none h;
}

module _ {f : ℕ → ℕ} {n set left all some : ℕ} (m : Sharing f n set left all some) where
  pub sharing_more : {x left' : ℕ} → 0 < left → x ≡ f (count_trailing_zeros word_width left) → left' ≡ without left (single (count_trailing_zeros word_width left))
      → Sharing f n set left' (common all x) (union some x)
  sharing_more h e l = record {
    few = m.few;
    met = shares_more m.met m.few h e refl l;
    joined = members_more m.joined m.few h e refl l;
  }

  pub sharing_done : left ≤ 0 → (all ≡ meet_of n set f (first prop_width)) × (some ≡ join_of n set f)
  sharing_done h = (shares_done m.met h, members_done m.joined h ∙ or_zero_l (join_of n set f))

-- ---- the same of all n states, one after the other

pub record Passing (f : ℕ → ℕ) (n i all some : ℕ) : Type 0 where
  pub within : i ≤ n
  pub met : all ≡ meet_over i f (first prop_width)
  pub joined : some ≡ join_over i f

pub passing_none : {f : ℕ → ℕ} {n all : ℕ} → all ≡ first prop_width → Passing f n 0 all 0
unfolding meet_over join_over
passing_none e = record { within = omega arith; met = e; joined = refl }

-- the first n are all of n
meet_first : (f : ℕ → ℕ) (n w m : ℕ) → m ≤ n → meet_over m f w ≡ meet_over m (λ i. choose (bit i (first n)) (f i) w) w
unfolding meet_over
meet_first f n w zero h = refl
meet_first f n w (suc m) h =
    ap₂ common (meet_first f n w m (omega arith)) (sym (choose_held w (bit_first m n ∙ below_of h)))

join_first : (f : ℕ → ℕ) (n : ℕ) → join_over n f ≡ join_of n (first n) f
unfolding join_of
join_first f n = join_over_eq n (λ i l. sym (keep_held (f i) (bit_first i n ∙ below_of l)))

module _ {f : ℕ → ℕ} {n i all some : ℕ} (m : Passing f n i all some) where
  pub passing_more : {x : ℕ} → i < n → x ≡ f i → Passing f n (i + 1) (common all x) (union some x)
  unfolding meet_over
  passing_more {x} h e = record {
    within = omega arith;
    met = ap₂ common m.met e ∙ ap (λ (j : ℕ). meet_over j f (first prop_width)) (sym (add-one i));
    joined = ap (union some) e ∙ join_over_next i f m.joined;
  }

  pub passing_done : n ≤ i → (all ≡ meet_of n (first n) f (first prop_width)) × (some ≡ join_of n (first n) f)
  unfolding meet_of
  passing_done h =
      let e : i ≡ n = omega (arith, m.within) in (
        m.met ∙ ap (λ (j : ℕ). meet_over j f (first prop_width)) e ∙ meet_first f n (first prop_width) n (omega arith),
        m.joined ∙ ap (λ (j : ℕ). join_over j f) e ∙ join_first f n,
      )

-- ---- the start sets at the front, of which those of the set are changed

module _ (n : ℕ) (start : ℕ → ℕ) (out₀ out₁ : List ℕ) (room : n ≤ length out₀) (e : out₁ ≡ put_at 0 (list_over n start) out₀) where
  long : 0 + length (list_over n start) ≤ length out₀
  long = omega (arith, length_list_over n start)

  here : 0 + length (list_over n start) ≡ n
  here = omega (arith, length_list_over n start)

  lent : take n out₁ ≡ list_over n start
  lent = ap₂ take (sym here) e ∙ put_take 0 (list_over n start) out₀ long

  rest : drop n out₁ ≡ drop n out₀
  rest = ap₂ drop (sym here) e ∙ put_rest 0 (list_over n start) out₀ long ∙ ap (λ (k : ℕ). drop k out₀) here

  pub lent_long : length (take n out₁) ≡ n
  lent_long = ap length lent ∙ length_list_over n start

  pub laid_sets : (set w : ℕ) (p : List ℕ) → p ≡ sets_of (length (take n out₁)) (λ s. get_or (take n out₁) s 0) set w
      → p ++ drop n out₁ ≡ put_at 0 (sets_of n start set w) out₀
  unfolding put_at sets_of
  laid_sets set w p f =
      let sets : p ≡ sets_of n start set w = f
      ∙ ap (λ (l : List ℕ). sets_of (length l) (λ s. get_or l s 0) set w) lent
      ∙ ap (λ (k : ℕ). sets_of k (λ s. get_or (list_over n start) s 0) set w) (length_list_over n start)
      ∙ list_over_eq (λ s l. ap (λ (x : ℕ). choose (bit s set) (came w x) x) (get_d_list_over start l)) in
      let size : n ≡ 0 + length (sets_of n start set w) = omega (arith, length_list_over n (λ s. choose (bit s set) (came w (start s)) (start s))) in
      ap₂ (λ (l r : List ℕ). l ++ r) sets (rest ∙ ap (λ (k : ℕ). drop k out₀) size)

-- a list written over the lent front of the output
pub front_laid : (n : ℕ) (f : ℕ → ℕ) (out : List ℕ) {p : List ℕ} → n ≤ length out → p ≡ list_over (length (take n out)) f
    → p ++ drop n out ≡ put_at 0 (list_over n f) out
unfolding put_at
front_laid n f out {p} room e =
    let size : n ≡ 0 + length (list_over n f) = omega (arith, length_list_over n f) in
    ap₂ (λ (l r : List ℕ). l ++ r) (e ∙ ap (λ (k : ℕ). list_over k f) (length-take-le n out room)) (ap (λ (k : ℕ). drop k out) size)
