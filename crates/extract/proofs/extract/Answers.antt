-- `extract` meets its contract: causes 1 to 5, 16, 15, 6, 7, 9 and 10; when all are passed, the words are cut and stand in front.
use mathlib.Core.Path.{◌≡◌, refl, sym, ap, subst, ◌∙◌}
use Prim.Native.Nat.{ℕ}
use native.Mathlib.Omega.{arith}
use lib.ListN.{length}
use Rattle.rules.specs.Layer.{word_count}
use Rattle.rules.specs.declared.Shape.{Shape}
use Rattle.graph.specs.Verdict.{Verdict, verdict}
use Rattle.graph.specs.Format.{shape_in}
use Rattle.graph.specs.Checks.{set_rule, output_rule, graph_rule, Small, Passed}
use Rattle.graph.proofs.Ladder.{set_means, output_means, graph_means, small_of}
use Rattle.graph.proofs.Verdicts.{stops, goes_on, laid_away}
use Rattle.extract.specs.Rule.{extract_rule, extract_taken}
use Rattle.extract.proofs.Cuts.{cut_laid}
use Rattle.extract.proofs.extract.Goals as goal
use Rattle.extract.proofs.extract.Goals.{After-check_set-asked, After-word_count-wanted, In_ok-check_graph, In_ok-check_output}

-- what was found of the set is its rule
asked : (c : After-check_set-asked) {v : Verdict (Unit {0})} → v ≡ graph_rule c.in_ok-c.field-0.counts c.args.depth (verdict c.check_set-asked.result) (length c.args.words.now)
    → v ≡ graph_rule c.in_ok-c.field-0.counts c.args.depth (set_rule c.in_ok-c.field-0.counts.states c.args.set.0) (length c.args.words.now)
asked c e = e ∙ ap (λ (x : Verdict (Unit {0})). graph_rule c.in_ok-c.field-0.counts c.args.depth x (length c.args.words.now)) c.check_set-asked.ensures

-- so this has passed
passed : (c : In_ok-check_graph) → Passed c.in_ok-c.field-0.counts c.args.depth (verdict c.check_set-asked.result) (length c.args.words.now)
passed c = graph_means _ _ _ _ (sym c.in_ok-check_graph.ensures)

counted : (c : After-word_count-wanted) → c.word_count-wanted.result ≡ word_count (shape_in c.in_ok-c.field-0.counts) c.args.depth
counted c = c.word_count-wanted.ensures ∙ ap (λ (s : Shape). word_count s c.args.depth) c.shape-s.ensures

pub returns-in_err-c : goal.returns-in_err-c
unfolding extract_rule
returns-in_err-c c = laid_away _ _ _ _ c.from_residual.ensures.1 (stops _ _ _ c.in_err-c.ensures.rule)

pub returns-in_err-check_graph : goal.returns-in_err-check_graph
unfolding extract_rule extract_taken
returns-in_err-check_graph c = laid_away _ _ _ _ c.from_residual-in_err-check_graph.ensures.1
    (goes_on _ _ _ c.in_ok-c.ensures.rule
    (stops _ _ _ (asked (goal.at.returns-in_err-check_graph c).After-check_set-asked c.in_err-check_graph.ensures)))

pub word_count-wanted-requires : goal.word_count-wanted-requires
word_count-wanted-requires c = (
  subst Small (sym c.shape-s.ensures) (small_of _ c.in_ok-c.field-0.taken.ranged),
  (passed (goal.at.word_count-wanted-requires c).In_ok-check_graph).deep,
)

pub returns-in_err-check_output : goal.returns-in_err-check_output
unfolding extract_rule extract_taken
returns-in_err-check_output c = laid_away _ _ _ _ c.from_residual-in_err-check_output.ensures.1
    (goes_on _ _ _ c.in_ok-c.ensures.rule
    (goes_on _ _ tt (asked (goal.at.returns-in_err-check_output c).After-check_set-asked c.in_ok-check_graph.ensures)
    (stops _ _ _ (c.in_err-check_output.ensures
    ∙ ap (λ (x : ℕ). output_rule x (length c.args.out.now)) (counted (goal.at.returns-in_err-check_output c).After-word_count-wanted)))))

pub stride-requires : goal.stride-requires
stride-requires c = subst Small (sym c.shape-s.ensures) (small_of _ c.in_ok-c.field-0.taken.ranged)

pub cut-requires : goal.cut-requires
cut-requires c = (
  omega (arith, counted (goal.at.cut-requires c).After-word_count-wanted, (passed (goal.at.cut-requires c).In_ok-check_graph).fits),
  output_means _ _ (sym c.in_ok-check_output.ensures),
)

pub returns : goal.returns
unfolding extract_rule extract_taken
returns c =
    let d = c.in_ok-c.field-0.counts in
    let is = counted (goal.at.returns c).After-word_count-wanted in
    let g = asked (goal.at.returns c).After-check_set-asked c.in_ok-check_graph.ensures in
    let p = graph_means _ _ _ _ (sym g) in
    cut_laid (shape_in d) d.states c.args.depth c.args.set.0 _ c.args.words.now
    (set_means _ _ p.fine).1 c.in_ok-c.field-0.taken.ranged.states is (omega (arith, is, p.fits)) _ _ _
    (sym (goes_on _ _ _ c.in_ok-c.ensures.rule
    (goes_on _ _ tt g
    (goes_on _ _ tt (c.in_ok-check_output.ensures ∙ ap (λ (x : ℕ). output_rule x (length c.args.out.now)) is) refl))))
    c.cut.ensures
