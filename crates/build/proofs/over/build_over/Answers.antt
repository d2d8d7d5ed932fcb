-- `over::build_over` meets its contract: causes 6 and 9, or the words and the looks.
use mathlib.Core.Path.{sym, ap, subst, ◌∙◌}
use lib.ListN.{length}
use Rattle.rules.specs.Layer.{word_count}
use Rattle.rules.specs.declared.Shape.{Shape}
use Rattle.graph.specs.Verdict.{accepted}
use Rattle.graph.specs.Checks.{Small, Passed}
use Rattle.graph.specs.Build.{build_for}
use Rattle.graph.proofs.Ladder.{graph_means, small_of}
use Rattle.graph.proofs.Graphs.{graph_long}
use Rattle.graph.proofs.Verdicts.{stops, then_accepted}
use Rattle.build.proofs.Answers.{count_away, count_accepted}
use Rattle.build.proofs.over.build_over.Goals as goal
use Rattle.build.proofs.over.build_over.Goals.{In_ok-check_graph}

-- what has passed
passed : (c : In_ok-check_graph) → Passed c.args.file.now.counts c.args.depth (accepted tt) (length c.args.words.now)
passed c = graph_means _ _ _ _ (sym c.in_ok-check_graph.ensures)

pub returns-in_err-check_graph : goal.returns-in_err-check_graph
unfolding build_for
returns-in_err-check_graph c starts are = count_away _ _ _ _ _ c.from_residual.ensures.1 (stops _ _ _ c.in_err-check_graph.ensures)

pub build_words-looked-requires : goal.build_words-looked-requires
build_words-looked-requires c =
    let p = passed (goal.at.build_words-looked-requires c).In_ok-check_graph in
    (p.deep, p.fits, c.requires)

pub word_count-requires : goal.word_count-requires
word_count-requires c =
    (subst Small (sym c.shape.ensures) (small_of _ c.args.file.now.taken.ranged), (passed (goal.at.word_count-requires c).In_ok-check_graph).deep)

pub returns : goal.returns
unfolding build_for
returns c starts are =
    let made = c.build_words-looked.ensures starts are in
    let v = c.args.file.now in
    count_accepted _ _ _ _ _ _ _ (then_accepted _ _ _ (sym c.in_ok-check_graph.ensures))
    (c.word_count.ensures ∙ ap (λ (s : Shape). word_count s c.args.depth) c.shape.ensures
    ∙ sym (graph_long v.bytes.now v.counts starts c.args.depth))
    made.1 made.0
