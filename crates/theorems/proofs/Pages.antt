-- An accepted page: each entry is the single call's answer, and tells all of it.
-- Assumes nothing.
use mathlib.Core.Path.{◌≡◌, refl, sym, ap, ap₂, ◌∙◌}
use mathlib.Core.List.{List, ◌++◌}
use mathlib.Core.Logic.{by_cases}
use Prim.Native.Nat.{ℕ, ◌+◌, ◌-◌, ◌^◌, ◌≤◌, ◌<◌}
use native.Mathlib.Decide.{dec_le}
use native.Mathlib.Omega.{arith}
use lib.ListN.{length, get_or, drop, get_or-append}
use lib.Seq.{get_or-append-add, get_or-drop}
use lib.Pow.{pow_pos}
use Rattle.rules.specs.Test.{same, choose}
use Rattle.rules.specs.Level.{Level, level, never, not_by_depth, level_of}
use Rattle.rules.proofs.Tests.{same_not}
use Rattle.rules.proofs.Layers.{get_d_list_over}
use Rattle.rules.proofs.Levels.{by_says}
use Rattle.graph.specs.Limits.{max_depth}
use Rattle.graph.specs.Verdict.{Verdict, accepted, refused, written, laid}
use Rattle.graph.specs.Format.{shape_in}
use Rattle.graph.specs.Checks.{set_rule, asked_rule}
use Rattle.graph.proofs.Links.{long_output}
use Rattle.graph.proofs.Ladder.{asked_means, graph_means, graph_of_lem}
use Rattle.graph.proofs.Verdicts.{then_accepted, passed_then}
use Rattle.level.specs.Rule.{level_taken, level_rule}
use Rattle.page.specs.Rule.{entry_of, entries, page_taken, page_rule}
use Rattle.page.proofs.Singles.{single_taken, single_fit, single_wide, entries_long, Paged, page_means}
use Rattle.theorems.specs.Setting.{Exactly, said_by}

-- ---- what an entry tells

-- a level
told_level : (t : ℕ) → t ≤ max_depth → said_by (entry_of (accepted (level t))) ≡ accepted (level t)
unfolding said_by choose
told_level t h = simp (
  same_not {i = t} {j = 256} (λ e. omega arith),
  same_not {i = t} {j = 257} (λ e. omega arith),
  same_not {i = t} {j = 258} (λ e. omega arith),
)

-- any answer whose level, if it is one, is no larger than a depth
told_answer : (a : Level) → ((t : ℕ) → a ≡ level t → t ≤ max_depth) → said_by (entry_of (accepted a)) ≡ accepted a
unfolding said_by choose same
told_answer (level t) h = told_level t (h t refl)
told_answer never h = refl
told_answer not_by_depth h = refl

-- cause 8
told_wide : said_by (entry_of (refused 8 0)) ≡ refused 8 0
unfolding said_by choose same
told_wide = refl

-- ---- the output after a call that gives these words

module _ (v : Verdict (List ℕ)) (given out : List ℕ) (e : v ≡ accepted given) where
  left : laid v out ≡ given ++ drop (length given) out
  unfolding laid
  left = ap (λ (x : Verdict (List ℕ)). laid x out) e

  front : (i : ℕ) → i < length given → get_or (laid v out) i 0 ≡ get_or given i 0
  front i h = ap (λ (l : List ℕ). get_or l i 0) left ∙ get_or-append given _ 0 i h

  behind : (i : ℕ) → length given ≤ i → get_or (laid v out) i 0 ≡ get_or out i 0
  behind i h =
      let past : length given + (i - length given) ≡ i = omega arith in
      ap₂ (λ (l : List ℕ) (x : ℕ). get_or l x 0) left (sym past)
      ∙ get_or-append-add given (drop (length given) out) (i - length given) 0
      ∙ get_or-drop (length given) out (i - length given) 0
      ∙ ap (λ (x : ℕ). get_or out x 0) past

-- ---- an accepted page

module _ {file : List ℕ} {depth set : ℕ} {goals words : List ℕ} {room : ℕ} {given : List ℕ} (m : Paged file depth set goals words room given) where
  -- an entry for each goal
  long : length given ≡ length goals
  long = ap length m.are ∙ entries_long _ goals

  entry_is : (i : ℕ) → i < length goals → get_or given i 0 ≡ entry_of (level_rule file depth set (get_or goals i 0) words)
  unfolding entries
  entry_is i h = ap (λ (l : List ℕ). get_or l i 0) m.are ∙ get_d_list_over _ h

  -- what the single call gives for a goal is told by its entry
  told : (goal : ℕ) → said_by (entry_of (level_rule file depth set goal words)) ≡ level_rule file depth set goal words
  unfolding level_of
  told goal = by_cases (dec_le (2 ^ m.c.props) goal)
      (λ h. of (refused 8 0) (single_wide m.c depth set words m.passed goal h) told_wide)
      (λ h. of (accepted _) (single_fit m.c depth set words m.passed goal (omega arith))
      (told_answer _ (λ t e. omega (arith, (by_says _ _ _ _ e).0, m.passed.deep))))
    where
      of : (v : Verdict Level) → level_taken m.c depth set goal words ≡ v → said_by (entry_of v) ≡ v
          → said_by (entry_of (level_rule file depth set goal words)) ≡ level_rule file depth set goal words
      of v e s =
          let is : level_rule file depth set goal words ≡ v = sym (single_taken file m.c depth set words m.taken goal) ∙ e in
          ap (λ (x : Verdict Level). said_by (entry_of x)) is ∙ s ∙ sym is

-- ---- which pages are accepted

module _ (file : List ℕ) (depth set : ℕ) (goals words : List ℕ) (room : ℕ) where
  -- then the single call for no goal is accepted, too
  single_accepted : {given : List ℕ} → Paged file depth set goals words room given → (a : Level) × (level_rule file depth set 0 words ≡ accepted a)
  single_accepted m = (
    level_of (shape_in m.c) depth set 0 words,
    sym (single_taken file m.c depth set words m.taken 0) ∙ single_fit m.c depth set words m.passed 0 (pow_pos m.c.props),
  )

  -- and where it is and the output is long enough, the page is
  page_accepted : (a : Level) → level_rule file depth set 0 words ≡ accepted a → length goals ≤ room
      → page_rule file depth set goals words room ≡ accepted (entries (λ goal. level_rule file depth set goal words) goals)
  unfolding level_rule level_taken page_rule page_taken
  page_accepted a e enough =
      let (c, taken, e₁) = passed_then _ _ a e in
      let (u, graph, e₂) = passed_then _ _ a e₁ in
      let p = graph_means c depth (asked_rule c set 0) (length words) graph in
      then_accepted _ _ c taken
      ∙ then_accepted _ _ tt (graph_of_lem c depth (set_rule c.states set) (length words)
      (record { deep = p.deep; fine = (asked_means c set 0 p.fine).0; fits = p.fits }))
      ∙ then_accepted _ _ tt (sym (long_output (length goals) room enough))

  pub accepted_exactly : Exactly ((given : List ℕ) × (page_rule file depth set goals words room ≡ accepted given))
      (((a : Level) × (level_rule file depth set 0 words ≡ accepted a)) × (length goals ≤ room))
  accepted_exactly = (
    λ (given, e). let m = page_means file depth set goals words room given e in (single_accepted m, m.fits),
    λ ((a, e), enough). (_, page_accepted a e enough),
  )

module _ (file : List ℕ) (depth set : ℕ) (goals words out given : List ℕ)
    (paged : page_rule file depth set goals words (length out) ≡ accepted given) where
  means : Paged file depth set goals words (length out) given
  means = page_means file depth set goals words (length out) given paged

  pub answer : written (page_rule file depth set goals words (length out)) ≡ accepted (length goals)
  unfolding written
  answer = ap written paged ∙ ap accepted (long means)

  pub entry : (i : ℕ) → i < length goals
      → get_or (laid (page_rule file depth set goals words (length out)) out) i 0 ≡ entry_of (level_rule file depth set (get_or goals i 0) words)
  entry i h = front _ given out paged i (omega (arith, long means)) ∙ entry_is means i h

  pub tells : (i : ℕ) → i < length goals
      → said_by (get_or (laid (page_rule file depth set goals words (length out)) out) i 0) ≡ level_rule file depth set (get_or goals i 0) words
  tells i h = ap said_by (entry i h) ∙ told means (get_or goals i 0)

  pub stays : (i : ℕ) → length goals ≤ i → get_or (laid (page_rule file depth set goals words (length out)) out) i 0 ≡ get_or out i 0
  stays i h = behind _ given out paged i (omega (arith, long means))
