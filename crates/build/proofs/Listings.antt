-- The lists that the build reads tell the effects of the file's actions.
-- Assumes nothing.
use Prim.Native.Nat.{ℕ, ◌+◌, ◌*◌, ◌≤◌, ◌<◌, ◌^◌}
use mathlib.Core.Path.{◌≡◌, refl, sym, ap, ap₂, subst, ◌∙◌}
use mathlib.Core.Bool.{So}
use mathlib.Core.List.{List}
use native.Mathlib.Nat.{lt_of_lt_of_le}
use native.Mathlib.Omega.{arith}
use lib.ListN.{length, get_or}
use lib.Pow.{pow_mono}
use Rattle.rules.specs.Test.{◌and◌, ◌or◌, fails, same, below}
use Rattle.rules.specs.Word.{bit, union, single, meets, first}
use Rattle.rules.specs.Over.{keep}
use Rattle.rules.specs.Domain.{Actions, condition, siblings, clobbers, interfere_of}
use Rattle.rules.specs.Shared.{start_label}
use Rattle.rules.proofs.Overs.{join_over_eq, join_over_lt, keep_lt}
use Rattle.rules.proofs.Words.{single_lt, bit_below, bit_first}
use Rattle.rules.proofs.Tests.{and_right, test_eq, same_at, below_of}
use Rattle.rules.proofs.Members.{bit_those, start_label_lt}
use Rattle.rules.proofs.Layers.{get_d_list_over, length_list_over}
use Rattle.rules.proofs.Domains.{needs_effect, adds_effect, deletes_effect, siblings_of, condition_lt}
use Rattle.words.specs.Rows.{row_length, InParts, Inside, columns_of}
use Rattle.together.specs.Interference.{clobbers_in, interfere_in, interferers_of}
use Rattle.together.specs.Cells.{Width, Span}
use Rattle.layers.specs.Step.{Told, Deletes}
use Rattle.rules.specs.Layer.{size, stride, word_count}
use Rattle.rules.proofs.Layouts.{count_stride}
use Rattle.graph.specs.Format.{actions_of, shape_in}
use Rattle.graph.specs.File.{Taken}
use Rattle.together.specs.Effects.{Effecting}
use Rattle.build.specs.Rooms.{Read}
use Rattle.graph.specs.declared.format.Counts.{Counts}

-- the labels of n sets that are the same
pub start_label_eq : (n : ℕ) (f g : ℕ → ℕ) (p : ℕ) → ((i : ℕ) → i < n → f i ≡ g i) → start_label n f p ≡ start_label n g p
unfolding start_label
start_label_eq n f g p e = join_over_eq n (λ i h. ap (λ (x : ℕ). keep (bit p x) (single i)) (e i h))

-- no label names a state that is not there
pub label_inside : (n : ℕ) (start : ℕ → ℕ) (s p x : ℕ) → x ≡ start_label n start p → So (bit s x) → So (bit s (first n))
label_inside n start s p x e b =
    bit_first s n ∙ below_of (bit_below (start_label_lt n start p) (ap (bit s) (sym e) ∙ b))

module _ (file : List ℕ) (c : Counts) (needs adds dels owners adders interferers : List ℕ) (taken : Taken file c)
    (is : Read file c needs adds dels owners adders interferers) where
  abbrev A : Actions
  A = actions_of file c

  pub needs_count : length needs ≡ c.effects
  needs_count = ap length is.needs_are ∙ length_list_over c.effects _

  adds_count : length adds ≡ c.effects
  adds_count = ap length is.adds_are ∙ length_list_over c.effects _

  need_is : (i : ℕ) → i < c.effects → get_or needs i 0 ≡ condition A i
  need_is i h = ap (λ (l : List ℕ). get_or l i 0) is.needs_are ∙ get_d_list_over _ h

  add_is : (i : ℕ) → i < c.effects → get_or adds i 0 ≡ A.add i
  add_is i h = ap (λ (l : List ℕ). get_or l i 0) is.adds_are ∙ get_d_list_over _ h

  del_is : (i : ℕ) → i < c.effects → get_or dels i 0 ≡ A.del i
  del_is i h = ap (λ (l : List ℕ). get_or l i 0) is.dels_are ∙ get_d_list_over _ h

  owner_is : (i : ℕ) → i < c.effects → get_or owners i 0 ≡ A.owner i
  owner_is i h = ap (λ (l : List ℕ). get_or l i 0) is.owners_are ∙ get_d_list_over _ h

  clobbers_is : (i j : ℕ) → i < c.effects → j < c.effects → clobbers_in needs adds dels i j ≡ clobbers A i j
  unfolding clobbers_in clobbers actions_of
  clobbers_is i j h k =
      ap₂ meets (del_is i h ∙ sym (deletes_effect A h)) (ap₂ union (need_is j k ∙ sym (needs_effect A k)) (add_is j k ∙ sym (adds_effect A k)))

  siblings_is : (i j : ℕ) → i < c.effects → j < c.effects → same (get_or owners i 0) (get_or owners j 0) ≡ siblings A i j
  unfolding siblings actions_of
  siblings_is i j h k = ap₂ same (owner_is i h) (owner_is j k)
      ∙ test_eq (λ t. siblings_of A h k (same_at t)) (λ t. and_right (below j c.effects) (and_right (below i c.effects) t))

  interfere_is : (i j : ℕ) → i < c.effects → j < c.effects → interfere_in needs adds dels owners i j ≡ interfere_of A i j
  unfolding interfere_in interfere_of
  interfere_is i j h k = ap₂ ◌and◌ (ap fails (siblings_is i j h k)) (ap₂ ◌or◌ (clobbers_is i j h k) (clobbers_is j i k h))

  interferers_is : (i : ℕ) → i < c.effects → get_or interferers i 0 ≡ interferers_of needs adds dels owners i
  interferers_is i h = ap (λ (l : List ℕ). get_or l i 0) is.interferers_are ∙ get_d_list_over _ (omega (arith, needs_count))

  pub told : Told A c.props needs adds adders interferers
  unfolding actions_of columns_of interferers_of
  told = record {
    props = refl;
    effects = sym needs_count;
    need = need_is;
    add = add_is;
    by = λ p h.
        ap (λ (l : List ℕ). get_or l p 0) is.adders_are ∙ get_d_list_over _ h
        ∙ ap (λ (x : ℕ). start_label x (λ i. get_or adds i 0) p) adds_count ∙ start_label_eq c.effects _ _ p (λ i k. add_is i k);
    interfere = λ i j h k.
        ap (bit j) (interferers_is i h) ∙ bit_those (interfere_in needs adds dels owners i) (omega (arith, needs_count)) ∙ interfere_is i j h k;
  }

  pub deletes : Deletes A dels
  unfolding actions_of
  deletes = del_is

  -- what an effect of a taken file needs is a set of its propositions
  pub needs_inside : Inside c.props needs
  unfolding actions_of
  needs_inside i h =
      let k : i < c.effects = omega (arith, needs_count) in
      subst (λ (x : ℕ). x < 2 ^ c.props) (sym (need_is i k)) (condition_lt A taken.sound k)

  few : c.effects ≤ row_length
  few = omega (arith, taken.ranged.effects)

  pub adders_inside : Inside row_length adders
  unfolding columns_of
  adders_inside p h =
      let k : p < c.props = omega (arith, ap length is.adders_are, length_list_over c.props (start_label (length adds) (λ i. get_or adds i 0))) in
      subst (λ (x : ℕ). x < 2 ^ row_length) (sym (ap (λ (l : List ℕ). get_or l p 0) is.adders_are ∙ get_d_list_over _ k))
      (let le : length adds ≤ row_length = omega (arith, adds_count, few) in lt_of_lt_of_le (start_label_lt (length adds) (λ i. get_or adds i 0) p) (pow_mono le))

  pub interferers_inside : Inside row_length interferers
  unfolding interferers_of
  interferers_inside i h =
      let k : i < c.effects =
      omega (arith, ap length is.interferers_are, length_list_over (length needs) (interferers_of needs adds dels owners), needs_count) in
      subst (λ (x : ℕ). x < 2 ^ row_length) (sym (interferers_is i k))
      (let le : length needs ≤ row_length = omega (arith, needs_count, few) in lt_of_lt_of_le (join_over_lt (length needs) _ (λ j l. keep_lt (length needs) (λ t. single_lt l)))
      (pow_mono le))

  pub wide_for : (width : ℕ) → InParts width → c.props ≤ width → Width c.props width needs
  wide_for width parts p = record { parts = parts; props = p; effects = omega (arith, needs_count, few); inside = needs_inside }

  pub spans_for : (span : ℕ) → InParts span → c.effects ≤ span → Span span needs
  spans_for span parts e = record { parts = parts; effects = omega (arith, needs_count) }

  pub adds_same : length adds ≡ length needs
  adds_same = adds_count ∙ sym needs_count

  pub dels_same : length dels ≡ length needs
  dels_same = ap length is.dels_are ∙ length_list_over c.effects _ ∙ sym needs_count

  pub adders_count : length adders ≡ c.props
  unfolding columns_of
  adders_count = ap length is.adders_are ∙ length_list_over c.props _

  pub interferers_same : length interferers ≡ length needs
  interferers_same = ap length is.interferers_are ∙ length_list_over (length needs) _

  -- what holds of the lists together
  pub effecting : Effecting needs adds dels interferers adders
  unfolding actions_of
  effecting =
      let le : c.props ≤ row_length = omega (arith, taken.ranged.props) in
      record {
        few = omega (arith, needs_count, few);
        needs_inside = λ i h. lt_of_lt_of_le (needs_inside i h) (pow_mono le);
        adds_long = adds_same;
        dels_long = dels_same;
        dels_inside = λ i h.
            let k : i < c.effects = omega (arith, dels_same, needs_count) in
            subst (λ (x : ℕ). x < 2 ^ row_length) (sym (del_is i k)) (lt_of_lt_of_le (taken.del i k) (pow_mono le));
        interferers_long = interferers_same;
        adders_few = omega (arith, adders_count, le);
        adders_inside = adders_inside;
      }

  -- the words of the graph, as the steps count them
  pub steps_fit : (depth len : ℕ) → word_count (shape_in c) depth ≤ len → size c.props + depth * (size (length needs + c.props) + size c.props) ≤ len
  unfolding stride
  steps_fit depth len h =
      let e : size (length needs + c.props) ≡ size (c.effects + c.props) = ap (λ (x : ℕ). size (x + c.props)) needs_count in
      let q : depth * (size (length needs + c.props) + size c.props) ≡ depth * (size c.props + size (c.effects + c.props)) =
      ap (λ (x : ℕ). depth * x) (omega arith) in
      omega (arith, count_stride (shape_in c) depth)
