-- The lists that were read make the file's graph: layer 0, the steps behind it, and copies of the last one where the graph rests; and its looks.
use mathlib.Core.Path.{sym, ap, subst, ◌∙◌}
use Prim.Native.Nat.{◌≤◌}
use native.Mathlib.Omega.{arith}
use lib.ListN.{length}
use Rattle.rules.specs.declared.Shape.{Shape}
use Rattle.rules.specs.Layer.{size, word_count}
use Rattle.together.proofs.Rows.{parts_le}
use Rattle.graph.specs.Checks.{Small}
use Rattle.graph.proofs.Ladder.{small_of}
use Rattle.build.proofs.Listings.{wide_for, spans_for, effecting, adders_count, interferers_same, steps_fit}
use Rattle.build.proofs.Whole.{graph_made}
use Rattle.build.proofs.over.build_in.Goals as goal
use Rattle.build.proofs.over.build_in.Goals.{After-read_problem}

-- the steps have room
fits : (c : After-read_problem) → size c.args.file.now.counts.props ≤ length c.args.words.now
fits c = omega (
  arith,
  steps_fit c.args.file.now.bytes.now c.args.file.now.counts _ _ _ _ _ _ c.args.file.now.taken c.read_problem.ensures
      c.args.depth _ c.requires.fits.1,
)

pub width_for-span-requires : goal.width_for-span-requires
width_for-span-requires c = omega (arith, c.args.file.now.taken.ranged.effects)

pub start-requires : goal.start-requires
start-requires c =
    let w = c.width_for.ensures in (
      record { parts = w.0; props = w.1; labels_long = omega arith; t_long = omega arith; spare_long = omega arith },
      fits (goal.at.start-requires c).After-read_problem,
    )

pub width_for-requires : goal.width_for-requires
width_for-requires c = omega (arith, c.args.file.now.taken.ranged.props)

pub first-requires : goal.first-requires
first-requires c = c.args.file.now.taken.ranged.states

pub many_pairs-requires : goal.many_pairs-requires
many_pairs-requires c =
    let is = c.read_problem.ensures in
    let s = c.width_for-span.ensures in (
      omega (
        arith,
        interferers_same c.args.file.now.bytes.now c.args.file.now.counts _ _ _ _ _ _ c.args.file.now.taken is,
        (spans_for c.args.file.now.bytes.now c.args.file.now.counts _ _ _ _ _ _ c.args.file.now.taken is _ s.0 s.1).effects,
        parts_le s.0,
      ),
      parts_le s.0,
    )

pub invariant_of-effects : goal.invariant_of-effects
invariant_of-effects c = record { listed = effecting c.args.file.now.bytes.now c.args.file.now.counts _ _ _ _ _ _ c.args.file.now.taken c.read_problem.ensures }

pub steps_until-steps-requires : goal.steps_until-steps-requires
steps_until-steps-requires c =
    let is = c.read_problem.ensures in
    let w = c.width_for.ensures in
    let s = c.width_for-span.ensures in
    record {
      mating = record {
        wide = wide_for c.args.file.now.bytes.now c.args.file.now.counts _ _ _ _ _ _ c.args.file.now.taken is _ w.0 w.1;
        spans = spans_for c.args.file.now.bytes.now c.args.file.now.counts _ _ _ _ _ _ c.args.file.now.taken is _ s.0 s.1;
        adders_long = adders_count c.args.file.now.bytes.now c.args.file.now.counts _ _ _ _ _ _ c.args.file.now.taken is;
      };
      deep = c.requires.fits.0;
      fits = omega (
        arith,
        steps_fit c.args.file.now.bytes.now c.args.file.now.counts _ _ _ _ _ _ c.args.file.now.taken is c.args.depth _
            c.requires.fits.1,
        c.start.auto.words,
      );
    }

pub copy_rest-requires : goal.copy_rest-requires
copy_rest-requires c =
    record {
      small = subst Small (sym c.shape.ensures) (small_of c.args.file.now.counts c.args.file.now.taken.ranged);
      deep = c.requires.fits.0;
      within = c.steps_until-steps.ensures.0;
      some = c.steps_until-steps.ensures.1;
      fits = omega (arith, c.requires.fits.1, ap (λ (S : Shape). word_count S c.args.depth) c.shape.ensures, c.start.auto.words, c.steps_until-steps.auto.words);
    }

pub shape_of-words : goal.shape_of-words
shape_of-words c = c.copy_rest.auto.words ∙ c.steps_until-steps.auto.words ∙ c.start.auto.words

pub shape_of-needs : goal.shape_of-needs
shape_of-needs c = c.read_problem.auto.needs

pub shape_of-adds : goal.shape_of-adds
shape_of-adds c = c.read_problem.auto.adds

pub shape_of-dels : goal.shape_of-dels
shape_of-dels c = c.read_problem.auto.dels

pub shape_of-owners : goal.shape_of-owners
shape_of-owners c = c.read_problem.auto.owners

pub shape_of-adders : goal.shape_of-adders
shape_of-adders c = c.read_problem.auto.adders

pub shape_of-interferers : goal.shape_of-interferers
shape_of-interferers c = c.read_problem.auto.interferers

pub shape-requires : goal.shape-requires
shape-requires c = c.args.file.now.taken.ranged

pub returns : goal.returns
returns c =
    let did = c.start in
    graph_made c.args.file.now.taken c.read_problem.ensures _ _ _ _ _ _ _ c.args.words.now _ _ _ c.requires.fits.1 c.first.ensures
    c.shape.ensures did.auto.words did.ensures.0 did.ensures.1 did.ensures.2
    c.steps_until-steps.ensures.2 c.copy_rest.ensures
