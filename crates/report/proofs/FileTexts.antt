-- The text of a file: what the graph that is built for it says, or the line of its refusal.
-- Assumes nothing.
use Prim.Native.Nat.{ℕ, ◌≤◌}
use mathlib.Core.Path.{◌≡◌, refl, sym, ap, ap₂, ◌∙◌}
use mathlib.Core.List.{List}
use native.Mathlib.Omega.{arith}
use lib.ListN.{length, take, drop}
use lib.Seq.{take_at}
use Rattle.rules.specs.Layer.{word_count}
use Rattle.rules.specs.declared.Shape.{Shape}
use Rattle.rules.proofs.Layouts.{count_zero}
use Rattle.words.proofs.Places.{size_small}
use Rattle.graph.specs.Verdict.{Verdict, accepted, refused, and_then, written, laid}
use Rattle.graph.specs.Limits.{max_depth}
use Rattle.graph.specs.Format.{shape_in, counts_in}
use Rattle.graph.specs.File.{file_rule}
use Rattle.graph.specs.Checks.{Small, output_rule}
use Rattle.graph.specs.Build.{graph_of, graph_looks, build_for, build_rule, counted, count_rule}
use Rattle.graph.specs.declared.format.Counts.{Counts}
use Rattle.graph.proofs.Ladder.{graph_of_lem}
use Rattle.graph.proofs.Verdicts.{then_accepted, laid_accepted}
use Rattle.words.specs.Memory.{put_at}
use Rattle.report.specs.Text.{levels_room, text_room, taken_text, refused_text, verdict_text, levels_text, text_rule}
use Rattle.report.specs.Wrote.{Adds}
use Rattle.report.specs.declared.writer.Writer.{Writer}

-- depth 0 always fits
pub zero_room : (S : Shape) → Small S → word_count S 0 ≤ levels_room
zero_room S small = omega (arith, count_zero S, size_small S.props (omega (arith, small.props)))

-- a taken file, at a depth in range that fits, is built
built : (file : List ℕ) (c : Counts) (depth room : ℕ) → file_rule file ≡ accepted c → depth ≤ max_depth → word_count (shape_in c) depth ≤ room
    → build_rule file depth room ≡ accepted (graph_of file c depth)
unfolding build_rule build_for
built file c depth room e h l =
    then_accepted _ _ c e ∙ then_accepted _ _ tt (graph_of_lem c depth _ room (record { deep = h; fine = refl; fits = l }))

-- so a build that is taken counts its words, and none is turned away
pub counted_is : (file : List ℕ) (c : Counts) (depth room : ℕ) → file_rule file ≡ accepted c → depth ≤ max_depth → word_count (shape_in c) depth ≤ room
    → count_rule file depth room ≡ accepted (record { words = length (graph_of file c depth); looked = graph_looks file (counts_in file) depth })
unfolding count_rule counted
counted_is file c depth room e h l = ap (counted (graph_looks file (counts_in file) depth)) (built file c depth room e h l)

-- what was turned away was not accepted
pub not_away : {A : Type 0} {X : Type 0} (number place : ℕ) (x : X) {v : Verdict X} → refused number place ≡ v → v ≡ accepted x → A
not_away number place x e q = absurd (let z : refused number place ≡ accepted x = e ∙ q in let y : ◌≡◌ {A = ℕ} 0 1 = cc in omega arith)

-- the words that the build leaves in front of the memory are the graph's
pub words_are : (file : List ℕ) (c : Counts) (depth count : ℕ) (w w' : List ℕ) → file_rule file ≡ accepted c → depth ≤ max_depth → word_count (shape_in c) depth ≤ length w
    → count ≡ length (graph_of file c depth) → w' ≡ laid (build_rule file depth (length w)) w → take count w' ≡ graph_of file c depth
unfolding laid
words_are file c depth count w w' taken deep fit counts laid_is =
    let graph : List ℕ = graph_of file c depth in
    ap (take count) (laid_is ∙ ap (λ (r : Verdict (List ℕ)). laid r w) (built file c depth (length w) taken deep fit))
    ∙ take_at graph (drop (length graph) w) count (sym counts)

-- ---- any file

module _ (file : List ℕ) where
  pub text_taken : (c : Counts) → file_rule file ≡ accepted c → taken_text file c ≡ levels_text file
  unfolding levels_text verdict_text
  text_taken c e = sym (ap (verdict_text file) e)

  pub text_refused : (number place : ℕ) → file_rule file ≡ refused number place → refused_text number place ≡ levels_text file
  unfolding levels_text verdict_text
  text_refused number place e = sym (ap (verdict_text file) e)

-- a check behind which nothing is turned away has turned this away itself
pub away_first : {X : Type 0} (v : Verdict X) (number place : ℕ) → refused number place ≡ and_then {Y = Unit {0}} v (λ x. accepted tt) → v ≡ refused number place
unfolding and_then
away_first (accepted x) number place e = not_away number place (tt {0}) e refl
away_first (refused n p) number place e = let k : number ≡ n = cc in let l : place ≡ p = cc in sym (ap₂ refused k l)

-- the text stands in front of the output, as the rule says
pub text_laid : (file out l : List ℕ) (w w' : Writer) → output_rule text_room (length out) ≡ accepted tt → w.end ≡ 0 → w.out.now ≡ out → Adds w (levels_text file) w' → l ≡ w'.out.now
    → (accepted w'.end ≡ written (text_rule file (length out))) × (l ≡ laid (text_rule file (length out)) out)
unfolding text_rule
text_laid file out l w w' room starts same x e =
    laid_accepted _ (levels_text file) out l w'.end (then_accepted _ _ tt room) (x.wrote.ends ∙ omega (arith, starts))
    (e ∙ x.wrote.is ∙ ap₂ (λ (b : ℕ) (m : List ℕ). put_at b (levels_text file) m) starts same)
