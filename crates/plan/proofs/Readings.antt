-- The effects as they are read from the file: what each needs, its action, and of each proposition those that add it.
-- Assumes nothing.
use mathlib.Core.Path.{◌≡◌, sym, ap, ap₂, subst, ◌∙◌}
use mathlib.Core.Bool.{Bool}
use mathlib.Core.List.{List, []}
use mathlib.Core.Logic.{⊎_elim}
use Prim.Native.Nat.{ℕ, ◌+◌, ◌-◌, ◌^◌, ◌≤◌, ◌<◌}
use native.Mathlib.Nat.{le_refl, zero-add, lt_of_lt_of_le}
use native.Mathlib.Numerals.{add-one}
use native.Mathlib.Omega.{arith}
use lib.ListN.{length, get_or, set}
use lib.Pow.{pow_mono}
use Rattle.rules.specs.Test.{below, choose}
use Rattle.rules.specs.Word.{bit, union, single}
use Rattle.rules.specs.Over.{keep, join_over}
use Rattle.rules.specs.Lists.{list_over}
use Rattle.rules.specs.Layer.{label_in, props_in, actions_in}
use Rattle.rules.specs.Shared.{start_label}
use Rattle.rules.specs.Domain.{domain, shape_of, condition, needs_of, adds_of}
use Rattle.rules.specs.Plan.{descend}
use Rattle.rules.specs.declared.Shape.{Shape}
use Rattle.rules.proofs.Tests.{holds_or, choose_held, choose_failed, below_at, below_fails}
use Rattle.rules.proofs.Words.{ext, bit_zero, bit_above}
use Rattle.rules.proofs.Members.{bit_start_label, start_label_lt}
use Rattle.rules.proofs.Domains.{condition_lt}
use Rattle.rules.proofs.Layers.{length_list_over, get_d_list_over, list_over_eq}
use Rattle.rules.proofs.SamePlans.{SameNeeds, descend_same, goals_inside}
use Rattle.words.specs.Width.{prop_width}
use Rattle.words.specs.Memory.{put_at}
use Rattle.words.specs.Rows.{columns_of}
use Rattle.words.proofs.Writes.{Lists, list_none, list_more, list_whole, put_length, put_word, put_above}
use Rattle.graph.specs.Format.{actions_of}
use Rattle.graph.specs.File.{Taken}
use Rattle.graph.specs.declared.format.Counts.{Counts}
use Rattle.plan.specs.Search.{listed_actions, Tables, Live}

adds_next : (i : ℕ) (f : ℕ → ℕ) (q : ℕ) → union (start_label i f q) (keep (bit q (f i)) (single i)) ≡ start_label (i + 1) f q
unfolding start_label join_over
adds_next i f q = ap (λ (k : ℕ). start_label k f q) (sym (add-one i))

-- ---- at effect i, the lists tell of the effects so far

pub record Reading (file : List ℕ) (c : Counts) (needs₀ owners₀ needs owners adders : List ℕ) (i : ℕ) : Type 0 where
  pub taken : Taken file c
  pub needed : Lists (condition (actions_of file c)) 0 c.effects needs₀ i needs
  pub owned : Lists (actions_of file c).owner 0 c.effects owners₀ i owners
  pub adding : adders ≡ list_over c.props (start_label i (actions_of file c).add)

module _ {file : List ℕ} {c : Counts} {needs₀ owners₀ : List ℕ} where
  pub reading_none : {adders : List ℕ} → Taken file c → length needs₀ ≡ c.effects → length owners₀ ≡ c.effects → adders ≡ list_over c.props (λ p. 0)
      → Reading file c needs₀ owners₀ needs₀ owners₀ adders 0
  unfolding start_label join_over
  reading_none t l m e = record { taken = t; needed = list_none (omega arith); owned = list_none (omega arith); adding = e }

  pub reading_more : {needs owners adders adders' : List ℕ} {i v o x y : ℕ} → Reading file c needs₀ owners₀ needs owners adders i → i < c.effects
      → v ≡ condition (actions_of file c) i → o ≡ (actions_of file c).owner i → x ≡ (actions_of file c).add i → y ≡ single i
      → adders' ≡ list_over (length adders) (λ q. union (label_in adders q) (keep (bit q x) y))
      → Reading file c needs₀ owners₀ (set needs i v) (set owners i o) adders' (i + 1)
  unfolding label_in
  reading_more {needs} {owners} {adders} {adders'} {i} {v} {o} {x} {y} r h p w q e k =
      let n = c.props in
      let f = (actions_of file c).add in
      record {
        taken = r.taken;
        needed = list_more r.needed h (sym (zero-add i)) p;
        owned = list_more r.owned h (sym (zero-add i)) w;
        adding = k ∙ ap (λ (m : ℕ). list_over m (λ j. union (get_or adders j 0) (keep (bit j x) y))) (ap length r.adding ∙ length_list_over n _)
            ∙ list_over_eq (λ j l.
            ap (λ (z : ℕ). union z (keep (bit j x) y)) (ap (λ (w : List ℕ). get_or w j 0) r.adding ∙ get_d_list_over _ l)
            ∙ ap₂ (λ (u w : ℕ). union (start_label i f j) (keep (bit j u) w)) q e ∙ adds_next i f j);
      }

  pub reading_done : {needs owners adders : List ℕ} {i : ℕ} → Reading file c needs₀ owners₀ needs owners adders i → c.effects ≤ i → length needs₀ ≡ c.effects
      → length owners₀ ≡ c.effects → (needs ≡ list_over c.effects (condition (actions_of file c))) × (owners ≡ list_over c.effects (actions_of file c).owner)
      × (adders ≡ list_over c.props (start_label c.effects (actions_of file c).add))
  reading_done {needs} {owners} {adders} {i} r h l m =
      let e : i ≡ c.effects = omega (arith, r.needed.within) in (
        list_whole r.needed h l,
        list_whole r.owned h m,
        r.adding ∙ ap (λ (k : ℕ). list_over c.props (start_label k (actions_of file c).add)) e,
      )

-- ---- what the effects add, read into a square of empty words, and its columns

module _ (n e : ℕ) (f : ℕ → ℕ) (row empty adds : List ℕ) (row_is : row ≡ list_over n (λ p. 0)) (few : e ≤ prop_width)
    (none : empty ≡ list_over prop_width (λ q. 0)) (is : adds ≡ put_at 0 (list_over e f) empty) where
  room : 0 + length (list_over e f) ≤ length empty
  room = omega (arith, length_list_over e f, ap length none, length_list_over prop_width (λ q. 0))

  long : length adds ≡ prop_width
  long = ap length is ∙ put_length 0 (list_over e f) empty room ∙ ap length none ∙ length_list_over prop_width (λ q. 0)

  front : (i : ℕ) → i < e → get_or adds i 0 ≡ f i
  front i h =
      ap₂ (λ (l : List ℕ) (x : ℕ). get_or l x 0) is (sym (zero-add i)) ∙ put_word 0 (list_over e f) empty room i (omega (arith, length_list_over e f))
      ∙ get_d_list_over f h

  behind : (i : ℕ) → i < prop_width → e ≤ i → get_or adds i 0 ≡ 0
  behind i h l =
      ap (λ (l : List ℕ). get_or l i 0) is ∙ put_above 0 (list_over e f) empty room i (omega (arith, length_list_over e f))
      ∙ ap (λ (l : List ℕ). get_or l i 0) none ∙ get_d_list_over (λ q. 0) h

  pub square_adders : columns_of (length row) adds ≡ list_over n (start_label e f)
  unfolding columns_of
  square_adders =
      ap (λ (m : ℕ). list_over m (start_label (length adds) (λ i. get_or adds i 0))) (ap length row_is ∙ length_list_over n (λ p. 0))
      ∙ list_over_eq (λ p h.
      ap (λ (m : ℕ). start_label m (λ i. get_or adds i 0) p) long
      ∙ ext {n = prop_width} (start_label_lt prop_width (λ i. get_or adds i 0) p) (lt_of_lt_of_le (start_label_lt e f p) (pow_mono few)) (λ i l.
      bit_start_label (λ i. get_or adds i 0) p l
      ∙ ⊎_elim
      (λ t. ap (bit p) (front i (below_at t)) ∙ sym (bit_start_label f p (below_at t)))
      (λ t. ap (bit p) (behind i l (below_fails t)) ∙ bit_zero p ∙ sym (bit_above (start_label_lt e f p) (below_fails t)))
      (holds_or (below i e))))

-- ---- what the lists tell once all effects are read

-- of a vertex, an effect's set or the proposition of a persistence
vertex_same : (a b : ℕ) (f g : ℕ → ℕ) → a ≡ b → ((v : ℕ) → v < b → f v ≡ g v) → (v : ℕ)
    → choose (below v a) (f v) (single (v - a)) ≡ choose (below v b) (g v) (single (v - b))
vertex_same a b f g e h v =
    ap (λ (x : ℕ). choose (below v x) (f v) (single (v - x))) e
    ∙ ⊎_elim
    (λ t. choose_held _ t ∙ h v (below_at t) ∙ sym (choose_held _ t))
    (λ t. choose_failed (below v b) _ t ∙ sym (choose_failed (below v b) _ t))
    (holds_or (below v b))

module _ (file : List ℕ) (c : Counts) (taken : Taken file c) (needs owners adders : List ℕ) (e : needs ≡ list_over c.effects (condition (actions_of file c)))
    (o : owners ≡ list_over c.effects (actions_of file c).owner) (f : adders ≡ list_over c.props (start_label c.effects (actions_of file c).add)) where
  pub needs_long : length needs ≡ c.effects
  needs_long = ap length e ∙ length_list_over c.effects _

  pub adders_long : length adders ≡ c.props
  adders_long = ap length f ∙ length_list_over c.props _

  need_at : (a : ℕ) → a < c.effects → get_or needs a 0 ≡ condition (actions_of file c) a
  need_at a h = ap (λ (l : List ℕ). get_or l a 0) e ∙ get_d_list_over _ h

  owner_at : (a : ℕ) → a < c.effects → get_or owners a 0 ≡ (actions_of file c).owner a
  owner_at a h = ap (λ (l : List ℕ). get_or l a 0) o ∙ get_d_list_over _ h

  adders_at : (p : ℕ) → p < c.props → get_or adders p 0 ≡ start_label c.effects (actions_of file c).add p
  adders_at p h = ap (λ (l : List ℕ). get_or l p 0) f ∙ get_d_list_over _ h

  add_at : (a : ℕ) → a < c.effects → start_label (length adders) (λ p. get_or adders p 0) a ≡ (actions_of file c).add a
  add_at a h = ext
      (subst (λ (n : ℕ). start_label (length adders) (λ p. get_or adders p 0) a < 2 ^ n) adders_long (start_label_lt (length adders) (λ p. get_or adders p 0) a))
      (taken.add a h)
      (λ p l.
      bit_start_label (λ p. get_or adders p 0) a (omega (arith, adders_long)) ∙ ap (bit a) (adders_at p l)
      ∙ bit_start_label (actions_of file c).add p h)

  pub read_tables : Tables needs owners adders
  unfolding actions_of
  read_tables = record {
    props = omega (arith, adders_long, taken.ranged.props);
    few = omega (arith, needs_long, taken.ranged.effects);
    need = λ a h.
        let l : a < c.effects = omega (arith, needs_long) in
        subst (λ (x : ℕ). x < 2 ^ length adders) (sym (need_at a l)) (subst (λ (n : ℕ). condition (actions_of file c) a < 2 ^ n) (sym adders_long)
        (condition_lt (actions_of file c) taken.sound l));
    owned = ap length o ∙ length_list_over c.effects _ ∙ sym needs_long;
    owner = λ a h.
        let l : a < c.effects = omega (arith, needs_long) in
        omega (arith, owner_at a l, taken.sound.owner a l, taken.ranged.actions);
    add = λ p h.
        let l : p < c.props = omega (arith, adders_long) in
        subst (λ (x : ℕ). x < 2 ^ length needs) (sym (adders_at p l)) (subst (λ (n : ℕ). start_label c.effects (actions_of file c).add p < 2 ^ n)
        (sym needs_long) (start_label_lt c.effects (actions_of file c).add p));
  }

  same_needs : SameNeeds (listed_actions needs owners adders) (actions_of file c)
  unfolding listed_actions actions_of needs_of adds_of condition
  same_needs = record {
    props = adders_long;
    effects = needs_long;
    owner = λ a h. owner_at a (omega (arith, needs_long));
    needs = vertex_same (length needs) c.effects (λ a. get_or needs a 0) (condition (actions_of file c)) needs_long need_at;
    adds = vertex_same (length needs) c.effects (start_label (length adders) (λ p. get_or adders p 0)) (actions_of file c).add needs_long add_at;
  }

  shape_same : shape_of (domain (listed_actions needs owners adders)) ≡ shape_of (domain (actions_of file c))
  unfolding domain
  shape_same i = record { props = same_needs.props i; vertices = same_needs.effects i + same_needs.props i }

  -- the descent by the lists is that of the file's actions
  pub read_descend : (words : List ℕ) (t set goal : ℕ) (needed : List ℕ) → needed ≡ list_over c.props (λ p. keep (bit p goal) set)
      → descend (listed_actions needs owners adders) words t needed []
      ≡ descend (actions_of file c) words t (list_over c.props (λ p. keep (bit p goal) set)) []
  unfolding listed_actions
  read_descend words t set goal needed g =
      ap (λ (l : List ℕ). descend (listed_actions needs owners adders) words t l [])
      (g ∙ ap (λ (n : ℕ). list_over n (λ p. keep (bit p goal) set)) (sym adders_long))
      ∙ descend_same same_needs set words words
      (λ p h i b. ap (λ (S : Shape). bit i (label_in (props_in S words 0) p)) shape_same)
      (λ u l v h i b. ap (λ (S : Shape). bit i (label_in (actions_in S words u) v)) shape_same)
      t (le_refl t) _ [] (goals_inside (listed_actions needs owners adders) set goal)
      ∙ ap (λ (n : ℕ). descend (actions_of file c) words t (list_over n (λ p. keep (bit p goal) set)) []) adders_long

-- the goal's propositions, joined to nothing, are what is needed at the level
pub goals_spread : (n set goal : ℕ) (row row' : List ℕ) → row ≡ list_over n (λ p. 0)
    → row' ≡ list_over (length row) (λ q. union (label_in row q) (keep (bit q goal) set)) → row' ≡ list_over n (λ p. keep (bit p goal) set)
unfolding label_in
goals_spread n set goal row row' e f =
    f ∙ ap (λ (m : ℕ). list_over m (λ q. union (get_or row q 0) (keep (bit q goal) set))) (ap length e ∙ length_list_over n _)
    ∙ list_over_eq (λ q l. ap (λ (x : ℕ). union x (keep (bit q goal) set)) (ap (λ (w : List ℕ). get_or w q 0) e ∙ get_d_list_over _ l))

pub goals_live : (n set goal : ℕ) (row : List ℕ) → goal < 2 ^ n → row ≡ list_over n (λ p. keep (bit p goal) set) → Live goal row
unfolding keep choose
goals_live n set goal row h e =
    let long : length row ≡ n = ap length e ∙ length_list_over n _ in
    record {
      inside = subst (λ (m : ℕ). goal < 2 ^ m) (sym long) h;
      rest = λ p l b. ap (λ (w : List ℕ). get_or w p 0) e ∙ get_d_list_over _ (omega arith) ∙ ap (λ (x : Bool). choose x set 0) b;
    }
