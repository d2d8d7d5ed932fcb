-- `build::build` meets its contract: the file's causes, or the graph over the labels of the file's start states.
use mathlib.Core.Path.{sym, ap, ◌∙◌}
use mathlib.Core.List.{List}
use Prim.Native.Nat.{ℕ}
use native.Mathlib.Omega.{arith}
use lib.ListN.{length}
use Rattle.words.proofs.Zeros.{zeros}
use Rattle.graph.specs.Format.{start_of}
use Rattle.graph.specs.Build.{build_for, build_rule, graph_looks, count_rule}
use Rattle.graph.specs.declared.format.Counts.{Counts}
use Rattle.graph.proofs.Ladder.{taken_linked}
use Rattle.graph.proofs.Verdicts.{stops, then_accepted}
use Rattle.build.proofs.Answers.{count_away, count_same}
use Rattle.build.proofs.build.Goals as goal

pub returns-in_err-view : goal.returns-in_err-view
unfolding build_rule count_rule
returns-in_err-view c = count_away _ _ _ _ _ c.from_residual.ensures.1 (stops _ _ _ c.in_err-view.ensures.rule)

pub start_labels-requires : goal.start_labels-requires
start_labels-requires c = zeros 32 32 (omega arith)

pub returns : goal.returns
unfolding build_rule count_rule
returns c =
    let v = c.in_ok-view.view in
    let f = c.args.file.now in
    let same = ap (λ b. b.now) c.in_ok-view.ensures.bytes in
    let taken = sym c.in_ok-view.ensures.rule in
    count_same _
    (ap (λ (x : List ℕ). graph_looks x v.counts c.args.depth) same ∙ ap (λ (x : Counts). graph_looks f x c.args.depth) (taken_linked f _ taken).are)
    (ap (λ (x : List ℕ). build_for x v.counts (start_of x v.counts) c.args.depth (length c.args.words.now)) same ∙ sym (then_accepted _ _ _ taken))
    (c.build_over.ensures _ c.start_labels.ensures)
