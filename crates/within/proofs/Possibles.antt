-- When a list is one of the possible sets, and its labels of layer 0.
-- Assumes nothing.
use mathlib.Core.Path.{◌≡◌, sym, ap, ◌∙◌}
use mathlib.Core.Bool.{true, false, So, false≢true}
use mathlib.Core.List.{List}
use Prim.Native.Nat.{ℕ, ◌^◌, ◌≤◌, ◌<◌}
use native.Mathlib.Omega.{arith}
use lib.ListN.{length, get_or}
use Rattle.rules.specs.Test.{◌and◌, fails, same, below, choose}
use Rattle.rules.specs.Word.{within}
use Rattle.rules.specs.Lists.{list_over}
use Rattle.rules.specs.Shared.{start_label}
use Rattle.rules.proofs.Tests.{fails_of, fails_at, same_of, same_at, same_not, below_of, below_not}
use Rattle.rules.proofs.Firsts.{first_eq, first_unique}
use Rattle.rules.proofs.Layers.{length_list_over, get_d_list_over}
use Rattle.words.specs.Rows.{row_length, columns_of}
use Rattle.graph.specs.Verdict.{accepted, refused}
use Rattle.graph.specs.Format.{start_of}
use Rattle.graph.specs.declared.format.Counts.{Counts}
use Rattle.graph.proofs.Verdicts.{passed_if}
use Rattle.build.specs.Rooms.{Labels}
use Rattle.within.specs.Rule.{set_of, encloses, first_open, bounds_rule, possible_rule}

-- ---- one set

module _ (props sure set : ℕ) where
  pub lacks : within sure set ≡ false → false ≡ encloses props sure set
  unfolding encloses ◌and◌
  lacks e = simp e

  module _ (has : within sure set ≡ true) where
    pub too_wide : 2 ^ props ≤ set → false ≡ encloses props sure set
    unfolding encloses ◌and◌
    too_wide h = simp (has, below_not h)

    pub enclosing : set < 2 ^ props → true ≡ encloses props sure set
    unfolding encloses ◌and◌
    enclosing h = simp (has, below_of h)

-- ---- a list

module _ (props n : ℕ) (sure : ℕ → ℕ) (possible : List ℕ) where
  -- those of the first k states are right
  abbrev pub Enclosed : ℕ → Type 0
  Enclosed k = (s : ℕ) → s < k → So (encloses props (sure s) (set_of possible s))

  pub open_here : {s : ℕ} → Enclosed s → s < n → encloses props (sure s) (set_of possible s) ≡ false → s ≡ first_open props n sure possible
  unfolding first_open
  open_here {s} before h e = first_unique (omega arith) (λ i l t. fails_at t (before i l)) (λ _. fails_of (λ t. false≢true (sym e ∙ t)))

  pub none_open : Enclosed n → n ≡ first_open props n sure possible
  unfolding first_open
  none_open each = first_unique (omega arith) (λ i l t. fails_at t (each i l)) (λ l. absurd (omega arith))

  pub wrong_length : (length possible ≡ n → ⊥) → refused 17 n ≡ bounds_rule props n sure possible
  unfolding bounds_rule choose
  wrong_length h = simp (same_not h)

  module _ (long : length possible ≡ n) (s : ℕ) (first : s ≡ first_open props n sure possible) where
    pub some_open : s < n → refused 17 s ≡ bounds_rule props n sure possible
    unfolding bounds_rule choose
    some_open h = simp (same_of long, sym first, below_of h)

    pub all_right : n ≤ s → accepted tt ≡ bounds_rule props n sure possible
    unfolding bounds_rule choose
    all_right h = simp (same_of long, sym first, below_not h)

  -- one that is taken is as long as the states are many
  pub right_length_lem : bounds_rule props n sure possible ≡ accepted tt → length possible ≡ n
  unfolding bounds_rule
  right_length_lem e = same_at (passed_if _ _ _ _ _ e).0

-- the rule goes by the sure sets alone, wherever they were read
pub listed : (file : List ℕ) (c : Counts) (sure possible : List ℕ) → sure ≡ list_over c.states (start_of file c)
    → bounds_rule c.props (length sure) (set_of sure) possible ≡ possible_rule file c possible
unfolding bounds_rule first_open
listed file c sure possible e =
    ap (λ (n : ℕ). bounds_rule c.props n (set_of sure) possible) (ap length e ∙ length_list_over c.states (start_of file c))
    ∙ ap (λ (s : ℕ). choose (same (length possible) c.states) (choose (below s c.states) (refused 17 s) (accepted tt)) (refused 17 c.states))
    (first_eq c.states (λ s h. ap (λ (x : ℕ). fails (encloses c.props x (set_of possible s)))
    (ap (λ (l : List ℕ). get_or l s 0) e ∙ get_d_list_over (start_of file c) h)))

-- turned round it is the row of labels
pub labels_are : (c : Counts) (possible row : List ℕ) → length possible ≡ c.states → row ≡ columns_of row_length possible → Labels c (set_of possible) row
unfolding columns_of
labels_are c possible row long e = e ∙ ap (λ (n : ℕ). list_over row_length (start_label n (set_of possible))) long
