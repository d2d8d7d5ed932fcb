-- What the single call gives for each goal of a page whose other checks are passed.
-- Assumes nothing.
use mathlib.Core.Path.{◌≡◌, refl, sym, ap, ◌∙◌}
use mathlib.Core.Bool.{Bool, true, false}
use mathlib.Core.List.{List}
use mathlib.Core.Logic.{by_cases}
use Prim.Native.Nat.{ℕ, ◌^◌, ◌≤◌, ◌<◌}
use native.Mathlib.Decide.{dec_le}
use native.Mathlib.Omega.{arith}
use lib.ListN.{length, get_or}
use Rattle.rules.specs.Test.{below, choose}
use Rattle.rules.specs.Level.{Level, first_met, first_rest, level_by, level_of}
use Rattle.rules.specs.Lists.{list_over}
use Rattle.rules.proofs.Tests.{is_fails, below_at, below_fails}
use Rattle.rules.proofs.Layers.{length_list_over, list_over_eq}
use Rattle.rules.proofs.Levels.{level_by_lem, never_by, not_by}
use Rattle.graph.specs.Verdict.{Verdict, accepted, refused, and_then}
use Rattle.graph.specs.Format.{shape_in}
use Rattle.graph.specs.File.{file_rule}
use Rattle.graph.specs.Checks.{set_rule, output_rule, asked_rule, graph_rule, Passed}
use Rattle.graph.specs.declared.format.Counts.{Counts}
use Rattle.graph.proofs.Ladder.{output_means, asked_of, graph_means, graph_of_lem}
use Rattle.graph.proofs.Links.{deep_enough, wide_goal, fit_goal}
use Rattle.graph.proofs.Verdicts.{then_refused, then_accepted, passed_then, accepted_is}
use Rattle.level.specs.Rule.{level_taken, level_rule}
use Rattle.level.proofs.Answers.{met_le}
use Rattle.page.specs.Rule.{never_entry, not_by_depth_entry, entry_of, entries, page_taken, page_rule}
use Rattle.page.specs.Memo.{unmet_entry, entry_by, entry_in}
use Rattle.page.proofs.Entries.{layer_wide, layer_fit, entry_unmet, entry_met}

-- once the file is taken
pub single_taken : (file : List ℕ) (c : Counts) (depth set : ℕ) (words : List ℕ) → file_rule file ≡ accepted c
    → (goal : ℕ) → level_taken c depth set goal words ≡ level_rule file depth set goal words
unfolding level_rule
single_taken file c depth set words e goal = sym (then_accepted _ _ c e)

module _ (c : Counts) (depth set : ℕ) (words : List ℕ) (passed : Passed c depth (set_rule c.states set) (length words)) (goal : ℕ) where
  -- a goal of the file's propositions has its level
  pub single_fit : goal < 2 ^ c.props → level_taken c depth set goal words ≡ accepted (level_of (shape_in c) depth set goal words)
  unfolding level_taken
  single_fit h = then_accepted _ _ tt (graph_of_lem c depth (asked_rule c set goal) (length words) (record {
    deep = passed.deep;
    fine = asked_of c set goal passed.fine (sym (fit_goal c.props goal h));
    fits = passed.fits;
  }))

  -- any other is turned away by cause 8, and by no other
  pub single_wide : 2 ^ c.props ≤ goal → level_taken c depth set goal words ≡ refused 8 0
  unfolding level_taken graph_rule asked_rule
  single_wide h =
      then_refused _ _ 8 0
      (then_accepted _ _ tt (sym (deep_enough depth passed.deep))
      ∙ then_refused _ _ 8 0 (then_accepted _ _ tt passed.fine ∙ sym (wide_goal c.props goal h)))

  -- the entry of a goal without a level
  unmet_single : depth < first_met (shape_in c) depth set goal words
      → unmet_entry (shape_in c) depth words ≡ entry_of (accepted (level_of (shape_in c) depth set goal words))
  unfolding unmet_entry level_of choose
  unmet_single h = go (below (first_rest (shape_in c) depth words) depth) refl
    where
      go : (b : Bool) → below (first_rest (shape_in c) depth words) depth ≡ b
          → choose b never_entry not_by_depth_entry ≡ entry_of (accepted (level_by (shape_in c) depth words (first_met (shape_in c) depth set goal words)))
      go true e = ap (λ (l : Level). entry_of (accepted l)) (sym (never_by (shape_in c) depth words _ h (below_at e)))
      go false e = ap (λ (l : Level). entry_of (accepted l)) (sym (not_by (shape_in c) depth words _ h (below_fails (is_fails e))))

  fit_single : goal < 2 ^ c.props → entry_by depth (first_met (shape_in c) depth set goal words) (unmet_entry (shape_in c) depth words)
      ≡ entry_of (accepted (level_of (shape_in c) depth set goal words))
  unfolding level_of
  fit_single h = by_cases (dec_le (first_met (shape_in c) depth set goal words) depth)
      (λ l. sym (entry_met depth _ _ (λ e. omega arith)) ∙ ap (λ (l : Level). entry_of (accepted l)) (sym (level_by_lem (shape_in c) depth words _ l)))
      (λ l. sym (entry_unmet depth _ _ (omega (arith, met_le (shape_in c) depth set words goal))) ∙ unmet_single (omega arith))

  -- the entry that is made is that of what the single call gives
  entry_single : entry_in (shape_in c) depth set goal words ≡ entry_of (level_taken c depth set goal words)
  unfolding entry_in
  entry_single = by_cases (dec_le (2 ^ c.props) goal)
      (λ h.
      ap (λ (x : ℕ). entry_by depth x (unmet_entry (shape_in c) depth words)) (sym (layer_wide (shape_in c) depth set goal words (sym (wide_goal c.props goal h))))
      ∙ sym (entry_met depth _ _ (λ e. omega (arith, passed.deep))) ∙ sym (ap entry_of (single_wide h)))
      (λ h.
      let fit : goal < 2 ^ c.props = omega arith in
      ap (λ (x : ℕ). entry_by depth x (unmet_entry (shape_in c) depth words))
      (sym (layer_fit (shape_in c) depth set goal words (sym (fit_goal c.props goal fit)) refl))
      ∙ fit_single fit ∙ sym (ap entry_of (single_fit fit)))

-- ---- all goals of a page

-- one for each
pub entries_long : (f : ℕ → Verdict Level) (goals : List ℕ) → length (entries f goals) ≡ length goals
unfolding entries
entries_long f goals = length_list_over (length goals) _

pub entries_single : (c : Counts) (depth set : ℕ) (words : List ℕ) → Passed c depth (set_rule c.states set) (length words) → (goals : List ℕ)
    → list_over (length goals) (λ i. entry_in (shape_in c) depth set (get_or goals i 0) words) ≡ entries (λ goal. level_taken c depth set goal words) goals
unfolding entries
entries_single c depth set words passed goals = list_over_eq (λ i h. entry_single c depth set words passed (get_or goals i 0))

pub entries_same : {f g : ℕ → Verdict Level} (goals : List ℕ) → ((goal : ℕ) → f goal ≡ g goal) → entries f goals ≡ entries g goals
unfolding entries
entries_same goals e = list_over_eq (λ i h. ap entry_of (e (get_or goals i 0)))

pub page_same : {f g : ℕ → Verdict Level} (c : Counts) (depth set : ℕ) (goals : List ℕ) (have room : ℕ) → ((goal : ℕ) → f goal ≡ g goal)
    → page_taken f c depth set goals have room ≡ page_taken g c depth set goals have room
unfolding page_taken
page_same c depth set goals have room e =
    ap (λ (l : List ℕ). and_then (graph_rule c depth (set_rule c.states set) have) (λ _. and_then (output_rule (length goals) room) (λ _. accepted l)))
    (entries_same goals e)

-- what an accepted page means
pub record Paged (file : List ℕ) (depth set : ℕ) (goals words : List ℕ) (room : ℕ) (written : List ℕ) : Type 0 where
  pub c : Counts
  pub taken : file_rule file ≡ accepted c
  pub passed : Passed c depth (set_rule c.states set) (length words)
  pub fits : length goals ≤ room
  pub are : written ≡ entries (λ goal. level_rule file depth set goal words) goals

pub page_means : (file : List ℕ) (depth set : ℕ) (goals words : List ℕ) (room : ℕ) (written : List ℕ)
    → page_rule file depth set goals words room ≡ accepted written → Paged file depth set goals words room written
unfolding page_rule page_taken
page_means file depth set goals words room written e =
    let (c, taken, e₁) = passed_then _ _ written e in
    let (u, graph, e₂) = passed_then _ _ written e₁ in
    let (v, output, e₃) = passed_then _ _ written e₂ in
    record {
      c = c;
      taken = taken;
      passed = graph_means c depth (set_rule c.states set) (length words) graph;
      fits = output_means (length goals) room output;
      are = sym (accepted_is _ _ e₃);
    }
