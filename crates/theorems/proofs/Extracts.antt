-- An extract of built words gives what the build gives for the states of S only.
-- Assumes nothing.
use mathlib.Core.Path.{◌≡◌, refl, sym, ap, subst, ◌∙◌}
use mathlib.Core.List.{List}
use Prim.Native.Nat.{ℕ, ◌≤◌, ◌<◌}
use lib.ListN.{length, drop}
use Rattle.rules.specs.Word.{single}
use Rattle.rules.specs.Extract.{rank}
use Rattle.rules.specs.Agreement.{OneState}
use Rattle.graph.specs.Verdict.{Verdict, accepted, laid}
use Rattle.graph.specs.Format.{start_of, domain_of, with_count, with_states}
use Rattle.graph.specs.Build.{build_rule}
use Rattle.graph.specs.declared.format.Counts.{Counts}
use Rattle.extract.specs.Rule.{extract_rule, states_of}
use Rattle.extract.proofs.OfBuilds as extracts
use Rattle.extract.proofs.OfBuilds.{Admitted}
use Rattle.theorems.specs.Setting.{Found, StatesOf}
use Rattle.theorems.proofs.Founds.{deep, built, fits, count, one_state}

module _ {file : List ℕ} {c : Counts} {depth : ℕ} {found : List ℕ} (f : Found file c depth found) where
  admitted : (set room : ℕ) → StatesOf c set → length f.words ≤ room → Admitted file depth set found room c
  admitted set room s h = record {
    taken = f.taken;
    deep = deep f;
    some = s.some;
    few = s.few;
    memory = fits f;
    output = subst (λ (x : ℕ). x ≤ room) (count f) h;
  }

  pub extract_is_build : {set : ℕ} → StatesOf c set → (room memory : ℕ) → length f.words ≤ room → length f.words ≤ memory
      → (words : List ℕ) × (extract_rule file depth set found room ≡ accepted words)
      × (build_rule (with_states file c (states_of file c set)) depth memory ≡ accepted words)
  extract_is_build {set} s room memory h k =
      let a = admitted set room s h in
      let e = extracts.extracts_graph file depth set found room c a (built f) in
      let same = extracts.extract_is_build file depth set found room c a (built f) memory (subst (λ (x : ℕ). x ≤ memory) (count f) k) in
      (_, e, sym same ∙ e)

  pub extract_leaves : {set : ℕ} → StatesOf c set → (out : List ℕ) → length f.words ≤ length out
      → Found (with_states file c (states_of file c set)) (with_count c (rank set c.states)) depth (laid (extract_rule file depth set found (length out)) out)
  unfolding laid
  extract_leaves {set} s out h =
      let (words, e, b) = extract_is_build s (length out) (length out) h h in
      record {
        taken = extracts.states_taken file c set f.taken s.some s.few;
        memory = length out;
        words = words;
        build = b;
        rest = drop (length words) out;
        begins = ap (λ (v : Verdict (List ℕ)). laid v out) e;
      }

  pub extract_one : (s : ℕ) → s < c.states → (room : ℕ) → length f.words ≤ room
      → (words : List ℕ) × (extract_rule file depth (single s) found room ≡ accepted words) × OneState (domain_of file c) depth (start_of file c s) words
  extract_one s h room k =
      extracts.extracts_one file depth (single s) found room c (admitted (single s) room (one_state c s h) k) (built f) s refl
