-- `build_sets` meets its contract: the labels of layer 0 are the list's, turned round.
use mathlib.Core.Path.{◌≡◌, refl, sym, ap, ◌∙◌}
use native.Mathlib.Omega.{arith}
use lib.ListN.{length}
use Rattle.rules.proofs.Layers.{length_list_over}
use Rattle.words.proofs.Zeros.{zeros}
use Rattle.graph.specs.Verdict.{accepted}
use Rattle.graph.specs.Format.{start_of}
use Rattle.graph.proofs.Verdicts.{stops, then_accepted}
use Rattle.build.proofs.Answers.{count_away, count_same}
use Rattle.within.specs.Rule.{possible_rule, within_taken}
use Rattle.within.proofs.Possibles.{right_length_lem, listed, labels_are}
use Rattle.within.proofs.build_sets.Goals as goal
use Rattle.within.proofs.build_sets.Goals.{In_ok-check_possible}

-- the list is one of the possible sets
passed : (c : In_ok-check_possible) → possible_rule c.args.file.now.bytes.now c.args.file.now.counts c.args.possible.now ≡ accepted tt
passed c = sym (c.in_ok-check_possible.ensures ∙ listed _ _ _ _ c.requires)

pub returns-in_err-check_possible : goal.returns-in_err-check_possible
unfolding within_taken
returns-in_err-check_possible c =
    count_away _ _ _ _ _ c.from_residual.ensures.1 (stops _ _ _ (c.in_err-check_possible.ensures ∙ listed _ _ _ _ c.requires))

pub columns-requires : goal.columns-requires
columns-requires c =
    let v = c.args.file.now in (
      omega arith,
      omega (
        arith,
        right_length_lem _ _ _ _ (passed (goal.at.columns-requires c).In_ok-check_possible),
        ap length c.requires ∙ length_list_over v.counts.states (start_of v.bytes.now v.counts),
        v.taken.ranged.states,
      ),
      zeros 32 32 (omega arith),
    )

pub returns : goal.returns
unfolding within_taken
returns c =
    let v = c.args.file.now in
    let right = passed (goal.at.returns c).In_ok-check_possible in
    count_same _ refl (sym (then_accepted _ _ tt right))
    (c.build_over.ensures _ (labels_are v.counts c.args.possible.now _ (right_length_lem _ _ _ _ right) c.columns.ensures))
