-- The two loops of a layer's search: over the propositions that are needed, and over the actions that add one of them.
-- Assumes nothing.
use mathlib.Core.Path.{◌≡◌, sym, ap, ap₂, subst, ◌∙◌}
use mathlib.Core.List.{List}
use mathlib.Core.Bool.{false}
use Prim.Native.Nat.{ℕ, ◌+◌, ◌^◌, ◌≤◌, ◌<◌}
use native.Mathlib.Nat.{lt_of_lt_of_le}
use native.Mathlib.Omega.{arith}
use lib.Count.{count_trailing_zeros, trailing_of_zero}
use lib.ListN.{length, get_or}
use lib.Pow.{pow_pos, pow_mono}
use Rattle.rules.specs.Word.{bit, without, single}
use Rattle.rules.specs.Lists.{list_over}
use Rattle.rules.specs.Layer.{label_in}
use Rattle.rules.specs.Domain.{condition, adds_of}
use Rattle.rules.specs.Plan.{Support, cover}
use Rattle.rules.proofs.Tests.{below_of, choose_held}
use Rattle.rules.proofs.Words.{bit_below}
use Rattle.rules.proofs.Members.{bit_start_label}
use Rattle.rules.proofs.Layers.{length_list_over, get_d_list_over}
use Rattle.words.specs.Width.{word_width}
use Rattle.words.proofs.Lowest.{no_lower}
use Rattle.plan.specs.Search.{listed_actions, Live, held, took, Turned, LayerLists, Covers}
use Rattle.plan.specs.declared.layer.Took.{Took}
use Rattle.std.specs.Prelude.{Some, None}
use Rattle.plan.proofs.Remaining.{Left, left_all, left_above, left_between, left_on, left_lowest}
use Rattle.plan.proofs.Searches.{resting, searching, rest_all, rest_to, rest_kept, rest_end, search_effect, search_clear, search_end, pass_to}

-- effect a adds p just when it is among the adders of p
adder_bit : (needs owners adders : List ℕ) (p a : ℕ) → p < length adders → a < length needs
    → bit p (adds_of (listed_actions needs owners adders) a) ≡ bit a (get_or adders p 0)
unfolding adds_of listed_actions
adder_bit needs owners adders p a h l =
    ap (bit p) (choose_held _ (below_of l)) ∙ bit_start_label (λ q. get_or adders q 0) a h

-- a row as long as before
turned_long : {label needs mark : ℕ} {s r : Took} {under under' : List ℕ} → Turned label needs mark s under r under' → length under' ≡ length under
unfolding took
turned_long {label} {needs} {mark} {s} {r} {under} t = ap (λ (x : Support). length x.needed) t.is ∙ length_list_over (length under) _

-- ---- the propositions that are left: the search so far leaves the rest of the layer

pub record Laying (wanted : List ℕ) (among : ℕ) (labels needs owners adders under : List ℕ) (s : Took) (props : ℕ) : Type 0 where
  pub lists : LayerLists wanted among labels needs owners adders
  pub left : Left among props
  pub live : Live s.live under
  pub long : length under ≡ length adders
  pub is : cover (listed_actions needs owners adders) labels wanted
      ≡ resting (listed_actions needs owners adders) labels wanted (count_trailing_zeros word_width props) s.marks under

-- ---- the actions that are left of those that add p

pub record Seeking (wanted : List ℕ) (among : ℕ) (labels needs owners adders : List ℕ) (p : ℕ) (under : List ℕ) (s : Took) (by : ℕ) : Type 0 where
  pub lists : LayerLists wanted among labels needs owners adders
  pub inside : p < length adders
  pub left : Left (get_or adders p 0) by
  pub live : Live s.live under
  pub long : length under ≡ length adders
  pub is : cover (listed_actions needs owners adders) labels wanted
      ≡ searching (listed_actions needs owners adders) labels wanted p (count_trailing_zeros word_width by + 1) (held s under)

module _ {wanted : List ℕ} {among : ℕ} {labels needs owners adders : List ℕ} where
  -- a proposition that is not among those needed is needed by no state
  unwanted : LayerLists wanted among labels needs owners adders → (q : ℕ) → q < length adders → bit q among ≡ false → label_in wanted q ≡ 0
  unfolding label_in
  unwanted l q h e = l.live.rest q (omega (arith, l.wide)) e

  pub lay_none : {under : List ℕ} {s : Took} {props : ℕ} → LayerLists wanted among labels needs owners adders → under ≡ list_over (length adders) (λ q. 0)
      → s.marks ≡ 0 → s.live ≡ 0 → props ≡ among → Laying wanted among labels needs owners adders under s props
  unfolding listed_actions
  lay_none {under} {s} {props} l e m n q =
      let long : length under ≡ length adders = ap length e ∙ length_list_over (length adders) _ in
      let few : length wanted ≤ word_width = omega (arith, l.wide, l.tables.props) in
      let word : among < 2 ^ word_width = lt_of_lt_of_le l.live.inside (pow_mono few) in
      record {
        lists = l;
        left = subst (Left among) (sym q) (left_all word);
        live = record {
          inside = subst (λ (x : ℕ). x < 2 ^ length under) (sym n) (pow_pos (length under));
          rest = λ p h b. ap (λ (x : List ℕ). get_or x p 0) e ∙ get_d_list_over _ (omega arith);
        };
        long = long;
        is = rest_all (listed_actions needs owners adders) labels wanted under e
            ∙ rest_to (listed_actions needs owners adders) labels wanted 0 (count_trailing_zeros word_width props) 0 under (omega arith) (λ p a b h.
            unwanted l p h (ap (bit p) (sym q) ∙ no_lower word_width props p b))
            ∙ ap (λ (x : ℕ). resting (listed_actions needs owners adders) labels wanted (count_trailing_zeros word_width props) x under) (sym m);
      }

  -- the lowest is a proposition
  pub lay_lt : {under : List ℕ} {s : Took} {props : ℕ} → Laying wanted among labels needs owners adders under s props → 0 < props
      → count_trailing_zeros word_width props < length adders
  lay_lt {under} {s} {props} l h = omega (arith, bit_below l.lists.live.inside (left_lowest l.left h), l.lists.wide)

  -- it is opened: its persistence takes what it can, and the actions that add it are left
  pub lay_open : {under under' : List ℕ} {s r : Took} {props p by label : ℕ} → Laying wanted among labels needs owners adders under s props → 0 < props
      → p ≡ count_trailing_zeros word_width props → by ≡ get_or adders p 0 → label ≡ get_or labels (length needs + p) 0
      → Turned label (single p) 0 (record { left = get_or wanted p 0; marks = s.marks; live = s.live }) under r under'
      → Seeking wanted among labels needs owners adders p under' r by
  unfolding listed_actions label_in
  lay_open {under} {under'} {s} {r} {props} {p} {by} {label} l some e f g t =
      let A = listed_actions needs owners adders in
      let h : p < length adders = omega (arith, lay_lt l some) in
      let few : length needs ≤ word_width = omega (arith, l.lists.tables.few) in
      let word : by < 2 ^ word_width = subst (λ (x : ℕ). x < 2 ^ word_width) (sym f) (lt_of_lt_of_le (l.lists.tables.add p h) (pow_mono few)) in
      record {
        lists = l.lists;
        inside = h;
        left = subst (λ (x : ℕ). Left x by) f (left_all word);
        live = t.live;
        long = turned_long t ∙ l.long;
        is = l.is ∙ ap (λ (x : ℕ). resting A labels wanted x s.marks under) (sym e)
            ∙ rest_kept A labels wanted p s.marks under h l.long
            ∙ ap (λ (x : ℕ). searching A labels wanted p 1 (took x (single p) 0 (record { left = get_or wanted p 0; marks = s.marks; needed = under }))) (sym g)
            ∙ ap (searching A labels wanted p 1) (sym t.is)
            ∙ pass_to A labels wanted p 0 (count_trailing_zeros word_width by) (held r under') (omega arith) (λ j a b k.
            adder_bit needs owners adders p j h k ∙ ap (bit j) (sym f) ∙ no_lower word_width by j b);
      }

  -- the lowest of them is an action
  pub seek_lt : {p : ℕ} {under : List ℕ} {s : Took} {by : ℕ} → Seeking wanted among labels needs owners adders p under s by → 0 < by
      → count_trailing_zeros word_width by < length needs
  seek_lt {p} {under} {s} {by} l h = bit_below (l.lists.tables.add p l.inside) (left_lowest l.left h)

  -- it takes what it can
  pub seek_on : {p : ℕ} {under under' : List ℕ} {s r : Took} {by by' a label set owner : ℕ} → Seeking wanted among labels needs owners adders p under s by → 0 < by
      → (s.left ≡ 0 → ⊥) → a ≡ count_trailing_zeros word_width by → by' ≡ without by (single (count_trailing_zeros word_width by)) → label ≡ get_or labels a 0
      → set ≡ get_or needs a 0 → owner ≡ get_or owners a 0 → Turned label set (single owner) s under r under' → Seeking wanted among labels needs owners adders p under' r by'
  unfolding listed_actions label_in condition
  seek_on {p} {under} {under'} {s} {r} {by} {by'} {a} {label} {set} {owner} l some e f g h k o t =
      let A = listed_actions needs owners adders in
      let m : a < length needs = omega (arith, seek_lt l some) in
      let above : a < count_trailing_zeros word_width by' = omega (arith, left_above l.left some g) in
      record {
        lists = l.lists;
        inside = l.inside;
        left = left_on l.left some g;
        live = t.live;
        long = turned_long t ∙ l.long;
        is = l.is ∙ ap (λ (x : ℕ). searching A labels wanted p (x + 1) (held s under)) (sym f)
            ∙ search_effect A labels wanted p a (held s under) l.long m e
            (adder_bit needs owners adders p a l.inside m ∙ ap (λ (x : ℕ). bit x (get_or adders p 0)) f ∙ left_lowest l.left some)
            ∙ ap₂ (λ (x y : ℕ). searching A labels wanted p (a + 1 + 1) (took x y (single (get_or owners a 0)) (held s under))) (sym h) (sym k)
            ∙ ap (λ (x : ℕ). searching A labels wanted p (a + 1 + 1) (took label set (single x) (held s under))) (sym o)
            ∙ ap (searching A labels wanted p (a + 1 + 1)) (sym t.is)
            ∙ pass_to A labels wanted p (a + 1) (count_trailing_zeros word_width by') (held r under') (omega arith) (λ j b c d.
            adder_bit needs owners adders p j l.inside d ∙ left_between l.left some g j (omega arith) c);
      }

  -- no state is left: on to the next proposition
  pub seek_clear : {under₀ under : List ℕ} {s₀ s : Took} {props props' p by : ℕ} → Laying wanted among labels needs owners adders under₀ s₀ props → 0 < props
      → p ≡ count_trailing_zeros word_width props → props' ≡ without props (single (count_trailing_zeros word_width props))
      → Seeking wanted among labels needs owners adders p under s by → s.left ≡ 0 → Laying wanted among labels needs owners adders under s props'
  unfolding listed_actions
  seek_clear {under₀} {under} {s₀} {s} {props} {props'} {p} {by} l some e g k z =
      let A = listed_actions needs owners adders in
      let above : p < count_trailing_zeros word_width props' = omega (arith, left_above l.left some g) in
      record {
        lists = l.lists;
        left = left_on l.left some g;
        live = k.live;
        long = k.long;
        is = k.is ∙ search_clear A labels wanted p (count_trailing_zeros word_width by + 1) (held s under) z
            ∙ rest_to A labels wanted (p + 1) (count_trailing_zeros word_width props') s.marks under (omega arith) (λ q a b h.
            unwanted l.lists q h (left_between l.left some g q (omega arith) b));
      }

  -- no action is left, and some states are
  pub seek_end : {p : ℕ} {under : List ℕ} {s : Took} {by : ℕ} → Seeking wanted among labels needs owners adders p under s by → by ≤ 0 → (s.left ≡ 0 → ⊥)
      → Covers (listed_actions needs owners adders) labels wanted None under
  unfolding listed_actions
  seek_end {p} {under} {s} {by} k h e =
      let z : by ≡ 0 = omega arith in
      record {
        is = sym (k.is ∙ search_end (listed_actions needs owners adders) labels wanted p (count_trailing_zeros word_width by + 1) (held s under)
            (omega (arith, ap (count_trailing_zeros word_width) z, trailing_of_zero word_width, k.lists.tables.few)) e);
        live = tt;
      }

  -- no proposition is left
  pub lay_end : {under : List ℕ} {s : Took} {props : ℕ} → Laying wanted among labels needs owners adders under s props → props ≤ 0
      → Covers (listed_actions needs owners adders) labels wanted (Some (record { marks = s.marks; live = s.live })) under
  unfolding listed_actions
  lay_end {under} {s} {props} l h =
      let z : props ≡ 0 = omega arith in
      record {
        is = sym (l.is ∙ rest_end (listed_actions needs owners adders) labels wanted (count_trailing_zeros word_width props) s.marks under
            (omega (arith, ap (count_trailing_zeros word_width) z, trailing_of_zero word_width, l.lists.tables.props)));
        live = l.live;
      }
