-- The whole graph: layer 0, the steps behind it, and copies of the last one where the graph rests; and the looks of its scans.
-- Assumes nothing.
use Prim.Native.Nat.{ℕ, ◌+◌, ◌-◌, ◌%◌, ◌≤◌, ◌<◌}
use mathlib.Core.Path.{◌≡◌, sym, ap, ap₂, subst, ◌∙◌}
use mathlib.Core.Bool.{So}
use mathlib.Core.List.{List}
use native.Mathlib.Omega.{arith}
use lib.ListN.{length, get_or}
use Rattle.rules.specs.declared.Shape.{Shape}
use Rattle.rules.specs.Word.{bit, first}
use Rattle.rules.specs.Lists.{list_over}
use Rattle.rules.specs.Domain.{Actions, domain}
use Rattle.rules.specs.Layer.{size, stride, word_count, layer_of}
use Rattle.rules.specs.Shared.{start_label, start_layer}
use Rattle.rules.specs.Together.{layer_by}
use Rattle.rules.specs.Scan.{looks_from}
use Rattle.rules.proofs.Layers.{get_d_list_over}
use Rattle.rules.proofs.Layouts.{count_stride}
use Rattle.words.specs.Memory.{put_at}
use Rattle.words.specs.Rows.{cell}
use Rattle.layers.specs.Step.{Told, Deletes, Tells}
use Rattle.graph.specs.Format.{actions_of, shape_in}
use Rattle.graph.specs.File.{Taken}
use Rattle.graph.specs.declared.format.Counts.{Counts}
use Rattle.graph.proofs.Graphs.{shape_is}
use Rattle.build.specs.Rooms.{Graph, Read}
use Rattle.build.specs.Steps.{Ended}
use Rattle.build.proofs.Builds.{layers_put, start_is, props_are, told_sizes}
use Rattle.build.proofs.Repeats.{left_put}
use Rattle.build.proofs.Listings.{told, deletes, label_inside}

-- layer 0 for some start states stands in w₁, the steps that were made in w₂, and all of them in w
pub graph_made : {file : List ℕ} {c : Counts} {needs adds dels owners adders interferers : List ℕ} → Taken file c
    → Read file c needs adds dels owners adders interferers
    → (depth all done looked : ℕ) (S : Shape) (labels t w₀ w₁ w₂ w : List ℕ) → word_count (shape_in c) depth ≤ length w₀ → all ≡ first c.states → S ≡ shape_in c
    → length w₁ ≡ length w₀ → w₁ ≡ put_at 0 (layer_by c.props (cell t)) w₀
    → layer_by c.props (cell t) ≡ layer_of c.props (λ p. get_or labels p 0) (λ p q. 0)
    → ((A : Actions) (all : ℕ) → A.props ≡ c.props → ((s p : ℕ) → p < c.props → So (bit s (get_or labels p 0)) → So (bit s all)) → Tells A all labels t)
    → ((A : Actions) → Told A c.props needs adds adders interferers → Deletes A dels → Tells A all labels t
    → Ended (domain A) all (layer_by (domain A).props (cell t)) depth w₁ done looked w₂)
    → w ≡ put_at (word_count S done) (list_over (word_count S depth - word_count S done) (λ i. get_or w₂ (word_count S done - stride S + i % stride S) 0)) w₂
    → Graph file c depth labels w₀ looked w
graph_made {file} {c} {needs} {adds} {dels} {owners} {adders} {interferers} taken read depth all done looked S labels t
    w₀ w₁ w₂ w room every es long e el begun steps ew starts are = (
      layers_put (domain (actions_of file c)) c.states starts depth all (layer_by (domain (actions_of file c)).props (cell t)) w₀ w₁ w front every begins
          (e ∙ ap (λ (x : ℕ). put_at 0 (layer_by x (cell t)) w₀) (props_are (actions_of file c) c.props tells.props))
          (left_put ended
          (omega (arith, room, ap (λ (S : Shape). word_count S depth) (shape_is file c), long)) w
          (subst (λ (S : Shape). w ≡ put_at (word_count S done) (list_over (word_count S depth - word_count S done) (λ i. get_or w₂ (word_count S done - stride S + i % stride S) 0)) w₂)
          (es ∙ sym (shape_is file c)) ew)),
      ended.looks ∙ ap₂ (λ (x : ℕ) (l : List ℕ). looks_from (domain (actions_of file c)) x l depth) every begins,
    )
  where
    tells : Told (actions_of file c) c.props needs adds adders interferers
    tells = told file c needs adds dels owners adders interferers taken read

    labels_are : (p : ℕ) → p < c.props → get_or labels p 0 ≡ start_label c.states starts p
    labels_are p h = ap (λ (l : List ℕ). get_or l p 0) are ∙ get_d_list_over _ (omega (arith, taken.ranged.props))

    begins : layer_by (domain (actions_of file c)).props (cell t) ≡ start_layer (domain (actions_of file c)) c.states starts
    begins = start_is (actions_of file c) c.states c.props starts labels t tells.props el labels_are

    ended : Ended (domain (actions_of file c)) all (layer_by (domain (actions_of file c)).props (cell t)) depth w₁ done looked w₂
    ended = steps (actions_of file c) tells (deletes file c needs adds dels owners adders interferers taken read)
        (begun (actions_of file c) all tells.props (λ s p h b. ap (bit s) every ∙ label_inside c.states starts s p _ (labels_are p h) b))

    front : size (domain (actions_of file c)).props ≤ length w₀
    front = omega (arith, room, count_stride (shape_in c) depth, (told_sizes (actions_of file c) c.props needs adds adders interferers tells).1)
