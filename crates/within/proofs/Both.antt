-- Two single calls' answers as one.
-- Assumes nothing.
use mathlib.Core.Path.{◌≡◌, ap, ◌∙◌}
use mathlib.Core.List.{List}
use Prim.Native.Nat.{ℕ}
use lib.ListN.{length}
use Rattle.rules.specs.Level.{Level, level_of}
use Rattle.graph.specs.Verdict.{Verdict, accepted, refused, turned_away}
use Rattle.graph.specs.Format.{shape_in}
use Rattle.graph.specs.File.{file_rule}
use Rattle.graph.specs.Checks.{asked_rule, graph_rule}
use Rattle.graph.specs.declared.format.Counts.{Counts}
use Rattle.graph.proofs.Verdicts.{then_refused, then_accepted, stops, goes_on}
use Rattle.level.specs.Rule.{level_taken, level_rule}
use Rattle.graph.specs.declared.refusal.Refusal.{Refusal}
use Rattle.within.specs.Rule.{both}

module _ (v w : Verdict Level) where
  pub first_refused : (number place : ℕ) → v ≡ refused number place → both v w ≡ refused number place
  unfolding both
  first_refused number place e = then_refused _ _ number place e

  pub second_refused : (l : Level) (number place : ℕ) → v ≡ accepted l → w ≡ refused number place → both v w ≡ refused number place
  unfolding both
  second_refused l number place e f = then_accepted _ _ l e ∙ then_refused _ _ number place f

  pub both_accepted : (l m : Level) → v ≡ accepted l → w ≡ accepted m → both v w ≡ accepted (record { first = l; second = m })
  unfolding both
  both_accepted l m e f = then_accepted _ _ l e ∙ then_accepted _ _ m f

-- a single call by what was found of its causes, in order
module _ (file : List ℕ) (c : Counts) (depth set goal : ℕ) (words : List ℕ) (taken : accepted c ≡ file_rule file) where
  pub level_away : (why : Refusal) → turned_away why ≡ graph_rule c depth (asked_rule c set goal) (length words) → turned_away why ≡ level_rule file depth set goal words
  unfolding level_rule level_taken
  level_away why e = goes_on _ _ _ taken (stops _ _ _ e)

  pub level_found : {l : Level} → accepted tt ≡ graph_rule c depth (asked_rule c set goal) (length words) → l ≡ level_of (shape_in c) depth set goal words
      → accepted l ≡ level_rule file depth set goal words
  unfolding level_rule level_taken
  level_found g e = goes_on _ _ _ taken (goes_on _ _ tt g (ap accepted e))
