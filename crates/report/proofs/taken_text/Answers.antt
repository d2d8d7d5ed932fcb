-- A file that is taken is built, and the text is read from the words of its graph, which stand in front.
use mathlib.Core.Path.{◌≡◌, refl, sym, ap, ap₂, subst, ◌∙◌}
use mathlib.Core.List.{List}
use Prim.Native.Nat.{ℕ, ◌≤◌}
use native.Mathlib.Omega.{arith}
use lib.ListN.{length, take}
use lib.Seq.{length-take-le}
use Rattle.rules.specs.Layer.{word_count}
use Rattle.rules.specs.declared.Shape.{Shape}
use Rattle.graph.specs.Verdict.{accepted}
use Rattle.graph.specs.Format.{start_of, shape_in}
use Rattle.graph.specs.Checks.{graph_rule, Small}
use Rattle.graph.specs.Build.{graph_of, Counted}
use Rattle.graph.proofs.Ladder.{small_of, graph_of_lem}
use Rattle.graph.proofs.Graphs.{graph_long}
use Rattle.graph.proofs.Verdicts.{ends_at, goes_on, accepted_is}
use Rattle.level.proofs.Answers.{of_lent}
use Rattle.report.specs.Depth.{depth_for}
use Rattle.report.specs.Text.{graph_text, taken_text, levels_room}
use Rattle.report.specs.Lines.{graph_text_of}
use Rattle.level.specs.declared.layers.Layers.{Layers}
use Rattle.report.proofs.Texts.{adds_same}
use Rattle.report.proofs.Marks.{graph_short}
use Rattle.report.proofs.FileTexts.{zero_room, counted_is, not_away, words_are, text_taken}
use Rattle.report.proofs.taken_text.Goals as goal
use Rattle.report.proofs.taken_text.Goals.{After-shape, After-depth_for-depth, In_ok-built}

small : (c : After-shape) → Small c.shape.result
small c = subst Small (sym c.shape.ensures) (small_of _ c.in_ok-c.field-0.taken.ranged)

-- the depth fits
fit : (S T : Shape) (depth room : ℕ) → S ≡ T → word_count S depth ≤ room → word_count T depth ≤ room
fit S T depth room e h = subst (λ (s : Shape). word_count s depth ≤ room) e h

-- so many words were written
count : (c : In_ok-built) → c.in_ok-built.built.words ≡ length (graph_of c.args.file.now c.in_ok-c.field-0.counts c.depth_for-depth.result)
count c = ap (λ (g : Counted). g.words) (accepted_is _ _ (c.in_ok-built.ensures.0
    ∙ counted_is c.args.file.now _ _ (length c.args.words.now) (sym c.in_ok-c.ensures.rule) c.depth_for-depth.ensures.1 (fit _ _ _ _ c.shape.ensures c.depth_for-depth.ensures.2)))

-- and so they are there
room : (c : In_ok-built) → c.in_ok-built.built.words ≤ length c.build.new.words
room c = omega (
  arith,
  count c,
  graph_long c.args.file.now c.in_ok-c.field-0.counts (start_of c.args.file.now c.in_ok-c.field-0.counts) c.depth_for-depth.result,
  fit _ _ _ _ c.shape.ensures c.depth_for-depth.ensures.2,
  c.build.auto.words,
)

passed : (c : In_ok-built) → graph_rule c.in_ok-c.field-0.counts c.depth_for-depth.result (accepted tt) (length (take c.in_ok-built.built.words c.build.new.words)) ≡ accepted tt
passed c = graph_of_lem _ _ _ _ (record {
  deep = c.depth_for-depth.ensures.1;
  fine = refl;
  fits = omega (
    arith,
    length-take-le c.in_ok-built.built.words c.build.new.words (room c),
    count c,
    graph_long c.args.file.now c.in_ok-c.field-0.counts (start_of c.args.file.now c.in_ok-c.field-0.counts) c.depth_for-depth.result,
  );
})

words : (c : In_ok-built) → take c.in_ok-built.built.words c.build.new.words ≡ graph_of c.args.file.now c.in_ok-c.field-0.counts c.depth_for-depth.result
words c = words_are _ _ _ _ c.args.words.now _ (sym c.in_ok-c.ensures.rule) c.depth_for-depth.ensures.1 (fit _ _ _ _ c.shape.ensures c.depth_for-depth.ensures.2) (count c)
    c.build.ensures.1

-- the depth is the one that the text has
depth : (c : After-depth_for-depth) → c.depth_for-depth.result ≡ depth_for (shape_in c.in_ok-c.field-0.counts) levels_room
depth c = c.depth_for-depth.ensures.0 ∙ ap₂ depth_for c.shape.ensures c.requires.0

pub returns-in_err-c-clause-rule : goal.returns-in_err-c-clause-rule
returns-in_err-c-clause-rule c = ends_at _ _ _ _ _ c.from_residual.ensures.1 c.in_err-c.ensures.rule

pub depth_for-depth-requires : goal.depth_for-depth-requires
depth_for-depth-requires c = let is = (goal.at.depth_for-depth-requires c).After-shape in (
  small is,
  subst (λ (s : Shape). 1 ≤ s.props) (sym c.shape.ensures) c.in_ok-c.field-0.taken.ranged.some_props,
  omega (arith, zero_room c.shape.result (small is), c.requires.0),
)

pub returns-in_err-built-clause-rule : goal.returns-in_err-built-clause-rule
returns-in_err-built-clause-rule c = not_away _ _ _ c.in_err-built.ensures.0
    (counted_is c.args.file.now _ _ (length c.args.words.now) (sym c.in_ok-c.ensures.rule) c.depth_for-depth.ensures.1 (fit _ _ _ _ c.shape.ensures c.depth_for-depth.ensures.2))

pub slice_bounds-lent-end : goal.slice_bounds-lent-end
slice_bounds-lent-end c = room (goal.at.slice_bounds-lent-end c).In_ok-built

pub slice_bounds-lent-end-2 : goal.slice_bounds-lent-end-2
slice_bounds-lent-end-2 c = sym (length-take-le _ _ (room (goal.at.slice_bounds-lent-end-2 c).In_ok-built))

pub returns-in_err-layers-clause-rule : goal.returns-in_err-layers-clause-rule
returns-in_err-layers-clause-rule c = not_away _ _ _ c.in_err-layers.ensures.rule (passed (goal.at.returns-in_err-layers-clause-rule c).In_ok-built)

pub put_graph-requires : goal.put_graph-requires
put_graph-requires c =
    let l = c.new.result.layers in
    let states = c.in_ok-c.field-0.taken.ranged.states in
    (states, record { room = omega (arith, c.requires.1, graph_short l.shape l.depth l.words.now l.room.deep _ l.room.small.props states) })

pub returns-clause-rule : goal.returns-clause-rule
returns-clause-rule c = goes_on _ _ _ c.in_ok-c.ensures.rule refl

pub returns-clause-text : goal.returns-clause-text
unfolding taken_text
returns-clause-text c = λ ok.
    let d = c.in_ok-c.field-0.counts in
    let is = (goal.at.returns-clause-text c).In_ok-built in
    adds_same c.put_graph.ensures
    (ap (λ (l : Layers). graph_text_of l d.states) c.new.ensures
    ∙ of_lent (λ (S : Shape) (k : ℕ) (w : List ℕ). graph_text S d.states k w) c.in_ok-layers.ensures.layers
    ∙ ap (graph_text (shape_in d) d.states c.depth_for-depth.result) (words is)
    ∙ ap (λ (k : ℕ). graph_text (shape_in d) d.states k (graph_of c.args.file.now d k)) (depth (goal.at.returns-clause-text c).After-depth_for-depth)
    ∙ text_taken c.args.file.now d (sym c.in_ok-c.ensures.rule))
