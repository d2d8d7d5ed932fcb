-- Loops over the effects of an action: the words of these effects, and what they add and delete; and the effects of each action.
-- Assumes nothing.
use Prim.Native.Nat.{ℕ, zero, suc, ◌*◌, ◌/◌, ◌%◌, ◌^◌, ◌≤◌, ◌<◌}
use mathlib.Core.Path.{◌≡◌, refl, sym, ap, ap₂, subst, ◌∙◌}
use mathlib.Core.Bool.{Bool, true, false, So}
use mathlib.Core.Logic.{⊎_elim}
use mathlib.Core.List.{List}
use native.Mathlib.Nat.{mod-lt, zero-lt-suc, zero-mul}
use native.Mathlib.Omega.{arith}
use lib.Bits.{bit_xor, and_zero_r, or_zero_r, or_comm, xor_zero_r}
use lib.Count.{count_trailing_zeros}
use lib.ListN.{length, get_or, set, length-set}
use lib.Seq.{get_or-set_same, get_or-set_other}
use Rattle.rules.specs.Test.{◌and◌, ◌or◌, fails, same, choose}
use Rattle.rules.specs.Word.{bit, common, union, without, single, first}
use Rattle.rules.specs.Over.{keep, join_of}
use Rattle.rules.specs.Lists.{list_over}
use Rattle.rules.specs.Layer.{label_in}
use Rattle.rules.specs.Domain.{Actions}
use Rattle.rules.specs.Shared.{start_label}
use Rattle.rules.proofs.Tests.{choose_held, choose_failed, holds_or, fails_of, fails_at, and_of, and_left, and_right, or_left, or_right, or_at}
use Rattle.rules.proofs.Tests.{same_of, same_at, below_of, test_eq}
use Rattle.rules.proofs.Overs.{any_of, any_at, bit_keep, join_over_eq, join_over_lt, keep_held, keep_failed, keep_lt}
use Rattle.rules.proofs.Words.{bit_common, bit_union, bit_without, bit_single, bit_first, no_bit_zero, without_lt, single_lt, shift_single, ext_all}
use Rattle.rules.proofs.Members.{bit_join_of, join_empty, join_pick}
use Rattle.rules.proofs.Layers.{length_list_over, get_d_list_over, list_over_eq}
use Rattle.words.specs.Width.{prop_width, word_width}
use Rattle.words.specs.Rows.{row_length}
use Rattle.words.proofs.MemberLoops.{lowest_in, lowest_lt}
use Rattle.words.proofs.Spreads.{bit_left, stays}
use Rattle.words.proofs.Writes.{list_all}
use Rattle.graph.specs.Limits.{max_effects}
use Rattle.run.specs.Fire.{effects_of, fired_in, fired_by, partly, of_effect, join_fired, of_effects, touched, removed_by, joined_by, applied_in, evenly}
use Rattle.run.specs.declared.fire.Fired.{Fired}

-- ---- the word of each member of a set is changed: g j x is what becomes of word j, if that is x

pub record Changes (g : ℕ → ℕ → ℕ) (n all : ℕ) (row₀ : List ℕ) (left : ℕ) (row : List ℕ) : Type 0 where
  pub few : n ≤ word_width
  pub room : n ≤ length row₀
  pub inside : left < 2 ^ n
  pub long : length row ≡ length row₀
  pub is : (j : ℕ) → choose (bit j left) (g j (get_or row j 0)) (get_or row j 0) ≡ choose (bit j all) (g j (get_or row₀ j 0)) (get_or row₀ j 0)

pub changes_none : {g : ℕ → ℕ → ℕ} {n all : ℕ} {row : List ℕ} → n ≤ word_width → n ≤ length row → all < 2 ^ n → Changes g n all row all row
changes_none f r h = record { few = f; room = r; inside = h; long = refl; is = λ j. refl }

module _ {g : ℕ → ℕ → ℕ} {n all : ℕ} {row₀ : List ℕ} {left : ℕ} {row : List ℕ} (m : Changes g n all row₀ left row) where
  pub changes_more : {left' q x : ℕ} → 0 < left → q ≡ count_trailing_zeros word_width left → x ≡ g q (get_or row q 0)
      → left' ≡ without left (single (count_trailing_zeros word_width left)) → Changes g n all row₀ left' (set row q x)
  changes_more {left'} {q} {x} some e f h =
      let low : q < n = subst (λ (i : ℕ). i < n) (sym e) (lowest_lt n left m.few m.inside some) in
      let has : So (bit q left) = subst (λ (i : ℕ). So (bit i left)) (sym e) (lowest_in n left m.few m.inside some) in
      let h' : left' ≡ without left (single q) = h ∙ ap (λ (i : ℕ). without left (single i)) (sym e) in
      record {
        few = m.few;
        room = m.room;
        inside = subst (λ (y : ℕ). y < 2 ^ n) (sym h) (without_lt n _ m.inside);
        long = length-set row q x ∙ m.long;
        is = λ j. ⊎_elim
            (λ u.
            let at : j ≡ q = same_at u in
            choose_failed _ _ (fails_of (λ t. fails_at (and_right _ (sym (bit_left j q left left' h') ∙ t)) u))
            ∙ ap (λ (i : ℕ). get_or (set row q x) i 0) at ∙ get_or-set_same row q x 0 (omega (arith, m.long, m.room)) ∙ f
            ∙ ap (λ (i : ℕ). g i (get_or row i 0)) (sym at) ∙ sym (choose_held _ (ap (λ (i : ℕ). bit i left) at ∙ has)) ∙ m.is j)
            (λ u.
            ap₂ (λ (b : Bool) (y : ℕ). choose b (g j y) y) (bit_left j q left left' h' ∙ stays (bit j left) (same j q) u)
            (get_or-set_other row q j x 0 (λ at. fails_at u (same_of at)))
            ∙ m.is j)
            (holds_or (same j q));
      }

  pub changes_done : left ≤ 0 → row ≡ list_over (length row₀) (λ j. choose (bit j all) (g j (get_or row₀ j 0)) (get_or row₀ j 0))
  changes_done h =
      let e : left ≡ 0 = omega arith in
      sym (list_all row m.long)
      ∙ list_over_eq (λ j l. sym (choose_failed _ _ (fails_of (λ t. no_bit_zero j (sym (ap (bit j) e) ∙ t)))) ∙ m.is j)

-- ---- a word taken away from the words of a row that a set names

pub without_none : (x : ℕ) → without x 0 ≡ x
without_none x = ap (bit_xor x) (and_zero_r x) ∙ xor_zero_r x

keep_none : (b : Bool) → keep b 0 ≡ 0
unfolding choose keep
keep_none true = refl
keep_none false = refl

strip_word : (b : Bool) (x t : ℕ) → choose b (without x t) x ≡ without x (keep b t)
unfolding choose keep
strip_word true x t = refl
strip_word false x t = sym (without_none x)

-- of the members only those count that the row has a word for
pub strip_cut : (t set left : ℕ) (row : List ℕ) → left ≡ common (first (length row)) set
    → list_over (length row) (λ j. choose (bit j left) (without (get_or row j 0) t) (get_or row j 0))
    ≡ list_over (length row) (λ j. without (label_in row j) (keep (bit j set) t))
unfolding label_in ◌and◌
strip_cut t set left row e = list_over_eq (λ j l.
    strip_word (bit j left) (get_or row j 0) t
    ∙ ap (λ (b : Bool). without (get_or row j 0) (keep b t))
    (ap (bit j) e ∙ bit_common j (first (length row)) set ∙ ap (λ (b : Bool). b and bit j set) (bit_first j (length row) ∙ below_of l)))

-- where nothing is taken away, nothing changes
pub strip_nothing : (t set : ℕ) (row : List ℕ) → t ≡ 0 → row ≡ list_over (length row) (λ j. without (label_in row j) (keep (bit j set) t))
unfolding label_in
strip_nothing t set row e =
    sym (list_all row refl) ∙ list_over_eq (λ j l. sym (ap (without (get_or row j 0)) (none (bit j set)) ∙ without_none (get_or row j 0)))
  where
    none : (b : Bool) → keep b t ≡ 0
    none b = ap (keep b) e ∙ keep_none b

-- ---- the sets of the effects `by`, joined to the labels or removed from them: `op` is how

module _ (op : ℕ → ℕ → ℕ) (twice : (x y z : ℕ) → op (op x y) z ≡ op x (union y z)) (nothing : (x : ℕ) → op x 0 ≡ x) where
  -- so far, while some of the n effects are left
  pub record Touches (n : ℕ) (sets : ℕ → ℕ) (by : ℕ) (fired labels₀ : List ℕ) (left : ℕ) (labels : List ℕ) : Type 0 where
    pub few : n ≤ word_width
    pub inside : left < 2 ^ n
    pub long : length labels ≡ row_length
    pub is : (p : ℕ) → p < row_length → op (get_or labels p 0) (touched n sets left fired p) ≡ op (get_or labels₀ p 0) (touched n sets by fired p)

  pub touches_none : {n : ℕ} {sets : ℕ → ℕ} {by : ℕ} {fired labels : List ℕ} → n ≤ word_width → by < 2 ^ n → length labels ≡ row_length
      → Touches n sets by fired labels by labels
  touches_none w h l = record { few = w; inside = h; long = l; is = λ p k. refl }

  module _ {n : ℕ} {sets : ℕ → ℕ} {by : ℕ} {fired labels₀ : List ℕ} {left : ℕ} {labels : List ℕ} (m : Touches n sets by fired labels₀ left labels) where
    pub touches_more : {left' e x t : ℕ} {labels' : List ℕ} → 0 < left → e ≡ count_trailing_zeros word_width left → x ≡ sets e → t ≡ get_or fired e 0
        → labels' ≡ list_over (length labels) (λ p. op (label_in labels p) (keep (bit p x) t))
        → left' ≡ without left (single (count_trailing_zeros word_width left)) → Touches n sets by fired labels₀ left' labels'
    unfolding label_in touched
    touches_more {left'} {e} {x} {t} {labels'} some at named one next rest =
        let rest' : left' ≡ without left (single e) = rest ∙ ap (λ (i : ℕ). without left (single i)) (sym at) in
        let low : e < n = subst (λ (i : ℕ). i < n) (sym at) (lowest_lt n left m.few m.inside some) in
        let has : So (bit e left) = subst (λ (i : ℕ). So (bit i left)) (sym at) (lowest_in n left m.few m.inside some) in
        let long : length labels' ≡ length labels = ap length next ∙ length_list_over (length labels) _ in
        record {
          few = m.few;
          inside = subst (λ (y : ℕ). y < 2 ^ n) (sym rest) (without_lt n _ m.inside);
          long = long ∙ m.long;
          is = λ p k.
              let here : get_or labels' p 0 ≡ op (get_or labels p 0) (keep (bit p (sets e)) (get_or fired e 0)) =
              ap (λ (l : List ℕ). get_or l p 0) next ∙ get_d_list_over _ (omega (arith, m.long))
              ∙ ap₂ (λ (y z : ℕ). op (get_or labels p 0) (keep (bit p y) z)) named one in
              ap₂ (λ (y z : ℕ). op y (touched n sets z fired p)) here rest' ∙ twice _ _ _
              ∙ ap (op (get_or labels p 0)) (sym (join_pick left (λ i. keep (bit p (sets i)) (get_or fired i 0)) low has)) ∙ m.is p k;
        }

    pub touches_done : left ≤ 0 → labels ≡ list_over row_length (λ p. op (get_or labels₀ p 0) (touched n sets by fired p))
    unfolding touched
    touches_done h =
        let e : left ≡ 0 = omega arith in
        sym (list_all labels m.long)
        ∙ list_over_eq (λ p l.
        sym (ap (λ (y : ℕ). op (get_or labels p 0) (touched n sets y fired p)) e ∙ ap (op (get_or labels p 0)) (join_empty n _) ∙ nothing (get_or labels p 0))
        ∙ m.is p l)

-- the two ways
pub union_twice : (x y z : ℕ) → union (union x y) z ≡ union x (union y z)
union_twice x y z = ext_all (λ i.
    bit_union i (union x y) z ∙ ap (λ (b : Bool). b or bit i z) (bit_union i x y) ∙ regroup (bit i x) (bit i y) (bit i z)
    ∙ sym (bit_union i x (union y z) ∙ ap (λ (b : Bool). bit i x or b) (bit_union i y z)))
  where
    regroup : (a b c : Bool) → ((a or b) or c) ≡ (a or (b or c))
    regroup a b c = test_eq
        (λ t. ⊎_elim (λ u. ⊎_elim (or_left _) (λ v. or_right _ (or_left _ v)) (or_at u)) (λ u. or_right _ (or_right _ u)) (or_at t))
        (λ t. ⊎_elim (λ u. or_left _ (or_left _ u)) (λ u. ⊎_elim (λ v. or_left _ (or_right _ v)) (or_right _) (or_at u)) (or_at t))

pub without_twice : (x y z : ℕ) → without (without x y) z ≡ without x (union y z)
without_twice x y z = ext_all (λ i.
    bit_without i (without x y) z ∙ ap (λ (b : Bool). b and fails (bit i z)) (bit_without i x y) ∙ both (bit i x) (bit i y) (bit i z)
    ∙ sym (bit_without i x (union y z) ∙ ap (λ (b : Bool). bit i x and fails b) (bit_union i y z)))
  where
    both : (a b c : Bool) → ((a and fails b) and fails c) ≡ (a and fails (b or c))
    both a b c = test_eq
        (λ t. let u = and_left _ t in
        and_of (and_left _ u) (fails_of (λ v. ⊎_elim (fails_at (and_right _ u)) (fails_at (and_right _ t)) (or_at v))))
        (λ t. let u = and_right _ t in
        and_of (and_of (and_left _ t) (fails_of (λ v. fails_at u (or_left _ v)))) (fails_of (λ v. fails_at u (or_right _ v))))

-- ---- what the effects of a step do: those that fire in every state of the set, and those that fire in some of them

abbrev pub made : ℕ → ℕ → ℕ → Fired
made d a e = record { del = d; add = a; some = e }

same_fired : {d d' a a' e e' : ℕ} → d ≡ d' → a ≡ a' → e ≡ e' → made d a e ≡ made d' a' e'
same_fired p q r i = record { del = p i; add = q i; some = r i }

kept : {b : Bool} (w : ℕ) → So b → keep b w ≡ w
unfolding keep
kept w t = choose_held 0 t

joined_kept : {b : Bool} (x w : ℕ) → So b → union x w ≡ union x (keep b w)
joined_kept x w t = ap (union x) (sym (kept w t))

joined_none : (b : Bool) (x w : ℕ) → So (fails b) → x ≡ union x (keep b w)
unfolding keep
joined_none b x w f = sym (ap (union x) (choose_failed b w f) ∙ or_zero_r x)

-- one effect more, by the states in which it fires
module _ (A : Actions) (those e t : ℕ) (did : Fired) where
  pub fires_all : t ≡ those → made (union did.del (A.del e)) (union did.add (A.add e)) did.some ≡ join_fired did (of_effect A those e t)
  unfolding join_fired of_effect partly
  fires_all h = same_fired (joined_kept did.del _ (same_of h)) (joined_kept did.add _ (same_of h))
      (joined_none _ did.some _ (fails_of (λ u. fails_at (and_left _ u) (same_of h))))

  pub fires_none : (t ≡ those → ⊥) → t ≡ 0 → did ≡ join_fired did (of_effect A those e t)
  unfolding join_fired of_effect partly
  fires_none f h = same_fired (joined_none _ did.del _ (fails_of (λ u. f (same_at u)))) (joined_none _ did.add _ (fails_of (λ u. f (same_at u))))
      (joined_none _ did.some _ (fails_of (λ u. fails_at (and_right _ u) (same_of h))))

  pub fires_some : (t ≡ those → ⊥) → (t ≡ 0 → ⊥) → made did.del did.add (union did.some (single e)) ≡ join_fired did (of_effect A those e t)
  unfolding join_fired of_effect partly
  fires_some f g = same_fired (joined_none _ did.del _ (fails_of (λ u. f (same_at u)))) (joined_none _ did.add _ (fails_of (λ u. f (same_at u))))
      (joined_kept did.some _ (and_of (fails_of (λ u. f (same_at u))) (fails_of (λ u. g (same_at u)))))

-- one effect after the other: what those did that are done, with what those do that are left
pub record Firing (A : Actions) (those by : ℕ) (labels fired₀ : List ℕ) (left : ℕ) (did : Fired) (fired : List ℕ) : Type 0 where
  pub changes : Changes (λ e x. fired_in A those labels e) A.effects by fired₀ left fired
  pub joined : join_fired did (of_effects A those left labels) ≡ of_effects A those by labels

pub firing_none : {A : Actions} {those by : ℕ} {labels fired : List ℕ} → A.effects ≤ word_width → A.effects ≤ length fired → by < 2 ^ A.effects
    → Firing A those by labels fired by (made 0 0 0) fired
unfolding join_fired
firing_none f r h = record { changes = changes_none f r h; joined = same_fired refl refl refl }

-- words joined, one member of a set after the other
gather_more : {n : ℕ} (acc left : ℕ) {all : ℕ} (g : ℕ → ℕ) {e left' : ℕ} → e < n → So (bit e left) → left' ≡ without left (single e)
    → union acc (join_of n left g) ≡ all → union (union acc (g e)) (join_of n left' g) ≡ all
gather_more {n} acc left g {e} l t r h =
    union_twice acc (g e) _ ∙ ap (union acc) (ap (λ (x : ℕ). union (g e) (join_of n x g)) r ∙ sym (join_pick left g l t)) ∙ h

gather_done : (n acc : ℕ) {left all : ℕ} (g : ℕ → ℕ) → left ≡ 0 → union acc (join_of n left g) ≡ all → acc ≡ all
gather_done n acc g e h = sym (ap (λ (x : ℕ). union acc (join_of n x g)) e ∙ ap (union acc) (join_empty n g) ∙ or_zero_r acc) ∙ h

module _ {A : Actions} {those by : ℕ} {labels fired₀ : List ℕ} {left : ℕ} {did : Fired} {fired : List ℕ}
    (m : Firing A those by labels fired₀ left did fired) where
  pub firing_more : {left' e t : ℕ} {did' : Fired} → 0 < left → e ≡ count_trailing_zeros word_width left → t ≡ fired_in A those labels e
      → did' ≡ join_fired did (of_effect A those e t) → left' ≡ without left (single (count_trailing_zeros word_width left))
      → Firing A those by labels fired₀ left' did' (set fired e t)
  unfolding join_fired of_effects
  firing_more {left'} {e} {t} {did'} some at one next rest =
      let rest' : left' ≡ without left (single e) = rest ∙ ap (λ (i : ℕ). without left (single i)) (sym at) in
      let low : e < A.effects = subst (λ (i : ℕ). i < A.effects) (sym at) (lowest_lt _ left m.changes.few m.changes.inside some) in
      let has : So (bit e left) = subst (λ (i : ℕ). So (bit i left)) (sym at) (lowest_in _ left m.changes.few m.changes.inside some) in
      let next' : did' ≡ join_fired did (of_effect A those e (fired_in A those labels e)) = next ∙ ap (λ (x : ℕ). join_fired did (of_effect A those e x)) one in
      record {
        changes = changes_more m.changes some at one rest;
        joined = ap (λ (x : Fired). join_fired x (of_effects A those left' labels)) next' ∙ same_fired
            (gather_more did.del left _ low has rest' (ap (λ (x : Fired). x.del) m.joined))
            (gather_more did.add left _ low has rest' (ap (λ (x : Fired). x.add) m.joined))
            (gather_more did.some left _ low has rest' (ap (λ (x : Fired). x.some) m.joined));
      }

  pub firing_done : left ≤ 0 → did ≡ of_effects A those by labels
  unfolding join_fired of_effects
  firing_done h =
      let e : left ≡ 0 = omega arith in
      same_fired
      (gather_done A.effects did.del _ e (ap (λ (x : Fired). x.del) m.joined))
      (gather_done A.effects did.add _ e (ap (λ (x : Fired). x.add) m.joined))
      (gather_done A.effects did.some _ e (ap (λ (x : Fired). x.some) m.joined))

-- what is joined need not be removed before
module _ (x del add p t : ℕ) where
  cut_bits : (x del add here : Bool) → ((x and fails ((del and fails add) and here)) or (add and here)) ≡ ((x and fails (del and here)) or (add and here))
  unfolding ◌and◌ ◌or◌ fails
  cut_bits false del add here = refl
  cut_bits true false add here = refl
  cut_bits true true false here = refl
  cut_bits true true true true = refl
  cut_bits true true true false = refl

  cut_joined : union (without x (keep (bit p (without del add)) t)) (keep (bit p add) t) ≡ union (without x (keep (bit p del) t)) (keep (bit p add) t)
  cut_joined = ext_all (λ s.
      bits s (bit p (without del add))
      ∙ ap (λ (b : Bool). (bit s x and fails (b and bit s t)) or (bit p add and bit s t)) (bit_without p del add)
      ∙ cut_bits (bit s x) (bit p del) (bit p add) (bit s t) ∙ sym (bits s (bit p del)))
    where
      bits : (s : ℕ) (c : Bool) → bit s (union (without x (keep c t)) (keep (bit p add) t)) ≡ ((bit s x and fails (c and bit s t)) or (bit p add and bit s t))
      bits s c = bit_union s _ _ ∙ ap₂ ◌or◌ (bit_without s x _ ∙ ap (λ (b : Bool). bit s x and fails b) (bit_keep s c t)) (bit_keep s (bit p add) t)

-- with something else removed between
uncut : (x del add minus p t : ℕ)
    → union (without (without x (keep (bit p (without del add)) t)) minus) (keep (bit p add) t)
    ≡ union (without x (union (keep (bit p del) t) minus)) (keep (bit p add) t)
uncut x del add minus p t =
    ap (λ (w : ℕ). union w (keep (bit p add) t)) (without_swap x _ minus) ∙ cut_joined (without x minus) del add p t
    ∙ ap (λ (w : ℕ). union w (keep (bit p add) t)) (without_swap x minus _ ∙ without_twice x _ minus)
  where
    without_swap : (x y z : ℕ) → without (without x y) z ≡ without (without x z) y
    without_swap x y z = without_twice x y z ∙ ap (without x) (or_comm y z) ∙ sym (without_twice x z y)

-- ---- all effects of a step, from what fires everywhere and what fires in part

word_of : (A : Actions) (those : ℕ) (labels : List ℕ) → A.effects ≤ max_effects → {e : ℕ} → e < A.effects
    → get_or (list_over max_effects (fired_in A those labels)) e 0 ≡ fired_in A those labels e
word_of A those labels few l = get_d_list_over _ (omega arith)

module _ (A : Actions) (those by : ℕ) (labels fired : List ℕ) (few : A.effects ≤ max_effects) where
  abbrev fires_in : ℕ → ℕ
  fires_in = fired_in A those labels

  abbrev part : ℕ
  part = (of_effects A those by labels).some

  part_lt : part < 2 ^ A.effects
  unfolding of_effects of_effect join_of
  part_lt = join_over_lt A.effects _ (λ e h. keep_lt A.effects (λ t. keep_lt A.effects (λ u. single_lt h)))

  part_of : {e : ℕ} → e < A.effects → So (bit e by) → So (partly those (fires_in e)) → So (bit e part)
  unfolding of_effects of_effect
  part_of {e} l t u = bit_join_of e A.effects by _ ∙ any_of _ l (and_of t (bit_keep e _ (single e) ∙ and_of u (bit_single e e ∙ same_of refl)))

  part_by : (e : ℕ) → So (bit e part) → So (bit e by)
  unfolding of_effects of_effect
  part_by e t =
      let (i, l, u) = any_at (sym (bit_join_of e A.effects by _) ∙ t) in
      let v = sym (bit_keep e (partly those (fires_in i)) (single i)) ∙ and_right _ u in
      subst (λ (j : ℕ). So (bit j by)) (sym (same_at (sym (bit_single e i) ∙ and_right _ v))) (and_left _ u)

  listed : {e : ℕ} → e < A.effects → get_or (list_over max_effects fires_in) e 0 ≡ fires_in e
  listed = word_of A those labels few

  written : {e : ℕ} → e < A.effects → So (bit e by) → get_or (fired_by A those by labels fired) e 0 ≡ fires_in e
  unfolding fired_by
  written l t = get_d_list_over _ (omega arith) ∙ choose_held _ t

  -- where an effect fires that has p in its set: in every state of the set, or where one fires that fires in part
  module _ (sets : ℕ → ℕ) (all : ℕ) (is : all ≡ join_of A.effects by (λ e. keep (same (fires_in e) those) (sets e))) (p s : ℕ) where
    split_to : So (bit s (touched A.effects sets by (list_over max_effects fires_in) p))
        → So ((bit p all and bit s those) or bit s (touched A.effects sets part (fired_by A those by labels fired) p))
    unfolding touched partly
    split_to t =
        let (e, l, u) = any_at (sym (bit_join_of s A.effects by _) ∙ t) in
        let v = sym (bit_keep s (bit p (sets e)) _) ∙ and_right _ u in
        let here : So (bit s (fires_in e)) = ap (bit s) (sym (listed l)) ∙ and_right _ v in
        ⊎_elim
        (λ k. or_left _ (and_of
        (ap (bit p) is ∙ bit_join_of p A.effects by _ ∙ any_of _ l (and_of (and_left _ u) (bit_keep p _ (sets e) ∙ and_of k (and_left _ v))))
        (subst (λ (w : ℕ). So (bit s w)) (same_at k) here)))
        (λ f. or_right _ (bit_join_of s A.effects part _ ∙ any_of _ l (and_of
        (part_of l (and_left _ u) (and_of f (fails_of (λ z. no_bit_zero s (ap (bit s) (sym (same_at z)) ∙ here)))))
        (bit_keep s (bit p (sets e)) _ ∙ and_of (and_left _ v) (ap (bit s) (written l (and_left _ u)) ∙ here)))))
        (holds_or (same (fires_in e) those))

    split_from : So ((bit p all and bit s those) or bit s (touched A.effects sets part (fired_by A those by labels fired) p))
        → So (bit s (touched A.effects sets by (list_over max_effects fires_in) p))
    unfolding touched
    split_from t = ⊎_elim
        (λ b.
        let (e, l, u) = any_at (sym (ap (bit p) is ∙ bit_join_of p A.effects by _) ∙ and_left _ b) in
        let v = sym (bit_keep p _ (sets e)) ∙ and_right _ u in
        bit_join_of s A.effects by _ ∙ any_of _ l (and_of (and_left _ u)
        (bit_keep s (bit p (sets e)) _ ∙ and_of (and_right _ v) (ap (bit s) (listed l ∙ same_at (and_left _ v)) ∙ and_right _ b))))
        (λ b.
        let (e, l, u) = any_at (sym (bit_join_of s A.effects part _) ∙ b) in
        let v = sym (bit_keep s (bit p (sets e)) _) ∙ and_right _ u in
        let m = part_by e (and_left _ u) in
        bit_join_of s A.effects by _ ∙ any_of _ l (and_of m
        (bit_keep s (bit p (sets e)) _ ∙ and_of (and_left _ v) (ap (bit s) (listed l ∙ sym (written l m)) ∙ and_right _ v))))
        (or_at t)

  split : (sets : ℕ → ℕ) {all : ℕ} → all ≡ join_of A.effects by (λ e. keep (same (fires_in e) those) (sets e)) → (p : ℕ)
      → touched A.effects sets by (list_over max_effects fires_in) p
      ≡ union (keep (bit p all) those) (touched A.effects sets part (fired_by A those by labels fired) p)
  split sets {all} is p = ext_all (λ s.
      test_eq (split_to sets all is p s) (split_from sets all is p s)
      ∙ sym (bit_union s (keep (bit p all) those) _ ∙ ap (λ (b : Bool). b or bit s (touched A.effects sets part (fired_by A those by labels fired) p))
      (bit_keep s (bit p all) those)))

  -- what fires everywhere is removed and joined at once
  module _ {did : Fired} {now : List ℕ} (e : did ≡ of_effects A those by labels) (f : now ≡ fired_by A those by labels fired) where
    parted : (sets : ℕ → ℕ) {all : ℕ} → all ≡ join_of A.effects by (λ e. keep (same (fires_in e) those) (sets e)) → (p : ℕ)
        → union (keep (bit p all) those) (touched A.effects sets did.some now p) ≡ touched A.effects sets by (list_over max_effects fires_in) p
    parted sets {all} is p =
        ap₂ (λ (g : Fired) (l : List ℕ). union (keep (bit p all) those) (touched A.effects sets g.some l p)) e f ∙ sym (split sets is p)

    -- the effects that fire in part are some of the n
    pub part_under : did.some < 2 ^ A.effects
    part_under = subst (λ (x : Fired). x.some < 2 ^ A.effects) (sym e) part_lt

    pub applied_of : {cut : ℕ} {labels₁ labels₂ labels₃ labels₄ : List ℕ} → length labels ≡ row_length → cut ≡ without did.del did.add
        → labels₁ ≡ list_over (length labels) (λ q. without (label_in labels q) (keep (bit q cut) those)) → labels₂ ≡ removed_by A did.some now labels₁
        → labels₃ ≡ list_over (length labels₂) (λ q. union (label_in labels₂ q) (keep (bit q did.add) those)) → labels₄ ≡ joined_by A did.some now labels₃
        → labels₄ ≡ applied_in A those by labels
    unfolding applied_in joined_by removed_by label_in of_effects of_effect
    applied_of {cut} {labels₁} {labels₂} {labels₃} long g one two three four =
        let long₂ : length labels₂ ≡ row_length = ap length two ∙ length_list_over row_length _ in
        four ∙ list_over_eq (λ p k.
        let x = get_or labels p 0 in
        let minus = touched A.effects A.del did.some now p in
        let plus = touched A.effects A.add did.some now p in
        let at₁ = ap (λ (l : List ℕ). get_or l p 0) one ∙ get_d_list_over _ (omega (arith, long)) ∙ ap (λ (w : ℕ). without x (keep (bit p w) those)) g in
        let at₂ = ap (λ (l : List ℕ). get_or l p 0) two ∙ get_d_list_over _ k ∙ ap (λ (w : ℕ). without w minus) at₁ in
        let at₃ = ap (λ (l : List ℕ). get_or l p 0) three ∙ get_d_list_over _ (omega (arith, long₂))
        ∙ ap (λ (w : ℕ). union w (keep (bit p did.add) those)) at₂ in
        ap (λ (w : ℕ). union w plus) (at₃ ∙ uncut x did.del did.add minus p those)
        ∙ union_twice (without x (union (keep (bit p did.del) those) minus)) (keep (bit p did.add) those) plus
        ∙ ap₂ (λ (u w : ℕ). union (without x u) w) (parted A.del (ap (λ (h : Fired). h.del) e) p) (parted A.add (ap (λ (h : Fired). h.add) e) p))

    -- where none fires in part, that is all
    pub applied_evenly : {labels' : List ℕ} → did.some ≡ 0 → labels' ≡ evenly those did.del did.add labels → labels' ≡ applied_in A those by labels
    unfolding evenly applied_in of_effects of_effect touched
    applied_evenly none one = one ∙ list_over_eq (λ p k. ap₂ (λ (u w : ℕ). union (without (get_or labels p 0) u) w)
        (whole A.del (ap (λ (h : Fired). h.del) e) p) (whole A.add (ap (λ (h : Fired). h.add) e) p))
      where
        whole : (sets : ℕ → ℕ) {all : ℕ} → all ≡ join_of A.effects by (λ e. keep (same (fires_in e) those) (sets e)) → (p : ℕ)
            → keep (bit p all) those ≡ touched A.effects sets by (list_over max_effects fires_in) p
        whole sets {all} is p =
            sym (ap (λ (x : ℕ). union (keep (bit p all) those) (touched A.effects sets x now p)) none
            ∙ ap (union (keep (bit p all) those)) (join_empty A.effects _) ∙ or_zero_r (keep (bit p all) those))
            ∙ parted sets is p

-- ---- the effects of each action

-- a word joined to one word of a row is joined to those that the set of just this one names
pub owned_one : (row : List ℕ) (a t : ℕ) → a < length row
    → set row a (union (get_or row a 0) t) ≡ list_over (length row) (λ q. union (label_in row q) (keep (bit q (single a)) t))
unfolding label_in
owned_one row a t h =
    let x = union (get_or row a 0) t in
    sym (list_all (set row a x) (length-set row a x)) ∙ list_over_eq (λ q l. ⊎_elim
    (λ u.
    let at : q ≡ a = same_at u in
    ap (λ (i : ℕ). get_or (set row a x) i 0) at ∙ get_or-set_same row a x 0 h ∙ ap (λ (i : ℕ). union (get_or row i 0) t) (sym at)
    ∙ ap (union (get_or row q 0)) (sym (keep_held t (bit_single q a ∙ u))))
    (λ u.
    get_or-set_other row a q x 0 (λ at. fails_at u (same_of at)) ∙ sym (or_zero_r (get_or row q 0))
    ∙ ap (union (get_or row q 0)) (sym (keep_failed _ t (ap fails (bit_single q a) ∙ u))))
    (holds_or (same q a)))

-- the words that come of the effects' actions, one effect after the other
pub owned_all : (A : Actions) → list_over row_length (start_label A.effects (λ e. single (A.owner e))) ≡ list_over row_length (effects_of A)
unfolding start_label effects_of
owned_all A = list_over_eq (λ a l. join_over_eq A.effects (λ e k. ap (λ (b : Bool). keep b (single e))
    (bit_single a (A.owner e) ∙ test_eq (λ t. same_of (sym (same_at t))) (λ t. same_of (sym (same_at t))))))

pub owned_at : (A : Actions) {owned : List ℕ} → owned ≡ list_over row_length (effects_of A) → {a : ℕ} → a < row_length → get_or owned a 0 ≡ effects_of A a
owned_at A e {a} l = ap (λ (x : List ℕ). get_or x a 0) e ∙ get_d_list_over _ l

pub effects_lt : (A : Actions) (a : ℕ) → effects_of A a < 2 ^ A.effects
unfolding effects_of
effects_lt A a = join_over_lt A.effects _ (λ e h. keep_lt A.effects (λ t. single_lt h))

-- ---- bit s of a word, moved to bit p

pub moved_bit : (word s p : ℕ) → p < prop_width → (word / 2 ^ s % 2 * 2 ^ p) % 2 ^ prop_width ≡ keep (bit s word) (single p)
unfolding bit keep choose same
moved_bit word s p h = go (word / 2 ^ s % 2) (mod-lt (word / 2 ^ s) (zero-lt-suc 1))
  where
    go : (d : ℕ) → d < 2 → (d * 2 ^ p) % 2 ^ prop_width ≡ keep (same d 1) (single p)
    go zero l = ap (λ (x : ℕ). x % 2 ^ prop_width) (zero-mul (2 ^ p))
    go (suc zero) l = shift_single prop_width h
    go (suc (suc d)) l = absurd (omega arith)
