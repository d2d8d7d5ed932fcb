-- The scans of a built graph: what each leaves, and that the build's number is theirs.
-- Assumes nothing.
use mathlib.Core.Path.{◌≡◌, sym, ap, ap₂, ◌∙◌}
use mathlib.Core.List.{List}
use Prim.Native.Nat.{ℕ, ◌+◌, ◌≤◌, ◌<◌}
use native.Mathlib.Numerals.{add-one}
use native.Mathlib.Omega.{arith}
use lib.ListN.{length}
use Rattle.rules.specs.Word.{common, first}
use Rattle.rules.specs.Domain.{shape_of}
use Rattle.rules.specs.Layer.{label_in, mutex_in, props_in, actions_in}
use Rattle.rules.specs.Shared.{next_layer, prop_from, prop_layer, vertex_layer}
use Rattle.rules.specs.Over.{sum_over}
use Rattle.rules.specs.Scan.{scanned, looks_of, step_looks, looks_from}
use Rattle.rules.proofs.Layers.{label_back, mutex_back, paired_rising}
use Rattle.rules.proofs.Layouts.{props_in_lem, actions_in_lem}
use Rattle.rules.proofs.Rests.{rests}
use Rattle.rules.proofs.Scans.{scanned_left, sum_eq}
use Rattle.graph.specs.Verdict.{Verdict, accepted, refused}
use Rattle.graph.specs.Format.{start_of, domain_of}
use Rattle.graph.specs.Build.{graph_looks, counted, build_rule, count_rule}
use Rattle.graph.specs.declared.format.Counts.{Counts}
use Rattle.graph.proofs.Ladder.{taken_linked}
use Rattle.theorems.specs.Setting.{Exactly, Found}
use Rattle.theorems.proofs.Founds as founds

module _ {file : List ℕ} {c : Counts} {depth : ℕ} {found : List ℕ} (f : Found file c depth found) where
  -- proposition layer t and action layer t of the found words
  abbrev props : ℕ → List ℕ
  props = props_in (shape_of (domain_of file c)) found

  abbrev actions : ℕ → List ℕ
  actions = actions_in (shape_of (domain_of file c)) found

  props_are : {t : ℕ} → t ≤ depth → props t ≡ prop_layer (domain_of file c) c.states (start_of file c) t
  props_are h = props_in_lem (domain_of file c) c.states (start_of file c) depth found (founds.built f) h

  actions_are : {t : ℕ} → t < depth → actions t ≡ vertex_layer (domain_of file c) c.states (start_of file c) t
  actions_are h = actions_in_lem (domain_of file c) c.states (start_of file c) depth found (founds.built f) h

  -- a layer is the next one of the action layer before it
  next_is : {t : ℕ} → t < depth → props (t + 1) ≡ next_layer (domain_of file c) (actions t)
  unfolding prop_from vertex_layer
  next_is {t} h =
      props_are (omega arith) ∙ ap (prop_layer (domain_of file c) c.states (start_of file c)) (add-one t)
      ∙ ap (next_layer (domain_of file c)) (sym (actions_are h))

  pub leaves_word : (t : ℕ) → t < depth → (p q : ℕ) → p < q → q < (domain_of file c).props
      → (scanned (domain_of file c).vertices (domain_of file c).adds (actions t) (common (label_in (props (t + 1)) p) (label_in (props (t + 1)) q)) p q).left
      ≡ mutex_in (domain_of file c).props (props (t + 1)) p q
  unfolding next_layer
  leaves_word t h p q l k =
      let D = domain_of file c in
      let hp : p < D.props = omega arith in
      ap₂ (λ (x y : ℕ). (scanned D.vertices D.adds (actions t) (common x y) p q).left)
      (ap (λ (l : List ℕ). label_in l p) (next_is h) ∙ label_back _ _ hp) (ap (λ (l : List ℕ). label_in l q) (next_is h) ∙ label_back _ _ k)
      ∙ scanned_left D.vertices D.adds (actions t) p q _
      ∙ sym (ap (λ (l : List ℕ). mutex_in D.props l p q) (next_is h) ∙ mutex_back _ _ hp k ∙ paired_rising 0 _ l)

  -- the looks of the step over action layer t
  abbrev looks : ℕ → ℕ
  looks t = looks_of (domain_of file c).props (domain_of file c).vertices (domain_of file c).adds (actions t)

  looks_are : {t : ℕ} → t < depth → looks t ≡ step_looks (domain_of file c) (first c.states) (prop_layer (domain_of file c) c.states (start_of file c) t)
  unfolding step_looks vertex_layer
  looks_are h = ap (looks_of (domain_of file c).props (domain_of file c).vertices (domain_of file c).adds) (actions_are h)

  pub answers : count_rule file depth f.memory ≡ accepted (record { words = length f.words; looked = sum_over depth looks })
  unfolding count_rule counted looks_from
  answers =
      ap (counted _) f.build
      ∙ ap (λ (x : Counts). accepted (record { words = length f.words; looked = graph_looks file x depth })) (sym (taken_linked file c f.taken).are)
      ∙ ap (λ (x : ℕ). accepted (record { words = length f.words; looked = x })) (sum_eq depth _ looks (λ t h. sym (looks_are h)))

  pub as_copied : (r : ℕ) → r < depth → props r ≡ props (r + 1) → (t : ℕ) → r ≤ t → t < depth → looks t ≡ looks r
  as_copied r h e t l k =
      looks_are k
      ∙ ap (step_looks (domain_of file c) _) (rests (domain_of file c) _ _ (sym (props_are (omega arith)) ∙ e ∙ props_are (omega arith)
      ∙ ap (prop_layer (domain_of file c) c.states (start_of file c)) (add-one r)) l)
      ∙ sym (looks_are h)

-- a build that is turned away answers no number
pub refused_exactly : (file : List ℕ) (depth room number place : ℕ)
    → Exactly (build_rule file depth room ≡ refused number place) (count_rule file depth room ≡ refused number place)
unfolding count_rule
refused_exactly file depth room number place = (λ e. unfold counted in ap (counted _) e, λ e. back _ (build_rule file depth room) e)
  where
    back : (looked : ℕ) (v : Verdict (List ℕ)) → counted looked v ≡ refused number place → v ≡ refused number place
    back looked (accepted words) e = unfold counted in cc
    back looked (refused n p) e = unfold counted in cc
