-- `file::check_file` meets its contract: each link turns the file away with its own cause, in order; when all are passed, it is taken.
use mathlib.Core.Path.{◌≡◌, refl, sym, ap, subst, ◌∙◌}
use mathlib.Core.List.{List}
use Prim.Native.Nat.{ℕ}
use lib.ListN.{length}
use Rattle.graph.specs.Format.{counts_in, right_length}
use Rattle.graph.specs.File.{Ranged, head_rule, version_rule, counts_rule, length_rule, sets_rule, actions_rule, file_rule}
use Rattle.graph.specs.Verdict.{Verdict, accepted, and_then}
use Rattle.graph.specs.declared.format.Counts.{Counts}
use Rattle.graph.proofs.Verdicts.{ends_at, goes_on}
use Rattle.graph.proofs.Ladder.{head_means, effects_inside, counts_mean, length_means, taken_means}
use Rattle.graph.proofs.file.check_file.Goals as goal
use Rattle.graph.proofs.file.check_file.Goals.{In_ok-check_counts, In_ok-check_length, In_ok-check_actions}

-- the links behind the version, of these counts
abbrev behind : List ℕ → Counts → Verdict Counts
behind file c =
    and_then (counts_rule c) (λ _.
    and_then (length_rule file c) (λ _.
    and_then (sets_rule file c) (λ _.
    and_then (actions_rule file c) (λ _.
    accepted c))))

whole : (file : List ℕ) (c : Counts) {v : Verdict Counts} → accepted tt ≡ head_rule file → accepted tt ≡ version_rule file → c ≡ counts_in file
    → v ≡ behind file c → v ≡ file_rule file
unfolding file_rule
whole file c h w e q = goes_on _ _ _ h (goes_on _ _ _ w (q ∙ ap (behind file) e))

-- the counts that were read are in their ranges, and the file is as long as they say
in-range : (c : In_ok-check_counts) → Ranged c.counts-c.result
in-range c = subst Ranged (sym c.counts-c.ensures) (counts_mean _ (ap counts_rule (sym c.counts-c.ensures) ∙ sym c.in_ok-check_counts.ensures))

fits : (c : In_ok-check_length) → Ranged c.counts-c.result × (length c.args.file.now ≡ right_length c.counts-c.result)
fits c = (
  subst Ranged (sym c.counts-c.ensures) (counts_mean _ (ap counts_rule (sym c.counts-c.ensures) ∙ sym c.in_ok-check_counts.ensures)),
  length_means _ _ (sym c.in_ok-check_length.ensures),
)

pub returns-in_err-check_head-clause-rule : goal.returns-in_err-check_head-clause-rule
unfolding file_rule
returns-in_err-check_head-clause-rule c = ends_at _ _ _ _ _ c.from_residual.ensures.1 c.in_err-check_head.ensures

pub check_version-requires : goal.check_version-requires
check_version-requires c = (head_means _ (sym c.in_ok-check_head.ensures)).bytes

pub returns-in_err-check_version-clause-rule : goal.returns-in_err-check_version-clause-rule
unfolding file_rule
returns-in_err-check_version-clause-rule c =
    goes_on _ _ _ c.in_ok-check_head.ensures (ends_at _ _ _ _ _ c.from_residual-in_err-check_version.ensures.1 c.in_err-check_version.ensures)

pub counts-c-requires : goal.counts-c-requires
counts-c-requires c = (
  (head_means _ (sym c.in_ok-check_head.ensures)).bytes,
  effects_inside _ (sym c.in_ok-check_head.ensures) (sym c.in_ok-check_version.ensures),
)

pub returns-in_err-check_counts-clause-rule : goal.returns-in_err-check_counts-clause-rule
returns-in_err-check_counts-clause-rule c = whole _ c.counts-c.result c.in_ok-check_head.ensures c.in_ok-check_version.ensures c.counts-c.ensures
    (ends_at _ _ _ _ _ c.from_residual-in_err-check_counts.ensures.1 c.in_err-check_counts.ensures)

pub check_length-requires : goal.check_length-requires
check_length-requires c = in-range (goal.at.check_length-requires c).In_ok-check_counts

pub returns-in_err-check_length-clause-rule : goal.returns-in_err-check_length-clause-rule
returns-in_err-check_length-clause-rule c = whole _ c.counts-c.result c.in_ok-check_head.ensures c.in_ok-check_version.ensures c.counts-c.ensures
    (goes_on _ _ _ c.in_ok-check_counts.ensures
    (ends_at _ _ _ _ _ c.from_residual-in_err-check_length.ensures.1 c.in_err-check_length.ensures))

pub invariant_of-whole : goal.invariant_of-whole
invariant_of-whole c = let f = fits (goal.at.invariant_of-whole c).In_ok-check_length in record { ranged = f.0; long = f.1 }

pub check_sets-requires : goal.check_sets-requires
check_sets-requires c = fits (goal.at.check_sets-requires c).In_ok-check_length

pub returns-in_err-check_sets-clause-rule : goal.returns-in_err-check_sets-clause-rule
returns-in_err-check_sets-clause-rule c = whole _ c.counts-c.result c.in_ok-check_head.ensures c.in_ok-check_version.ensures c.counts-c.ensures
    (goes_on _ _ _ c.in_ok-check_counts.ensures
    (goes_on _ _ _ c.in_ok-check_length.ensures
    (ends_at _ _ _ _ _ c.from_residual-in_err-check_sets.ensures.1 c.in_err-check_sets.ensures)))

pub returns-in_err-check_actions-clause-rule : goal.returns-in_err-check_actions-clause-rule
returns-in_err-check_actions-clause-rule c = whole _ c.counts-c.result c.in_ok-check_head.ensures c.in_ok-check_version.ensures c.counts-c.ensures
    (goes_on _ _ _ c.in_ok-check_counts.ensures
    (goes_on _ _ _ c.in_ok-check_length.ensures
    (goes_on _ _ _ c.in_ok-check_sets.ensures
    (ends_at _ _ _ _ _ c.from_residual-in_err-check_actions.ensures.1 c.in_err-check_actions.ensures))))

-- with all links passed
all-passed : (c : In_ok-check_actions) → accepted c.counts-c.result ≡ file_rule c.args.file.now
all-passed c = whole _ c.counts-c.result c.in_ok-check_head.ensures c.in_ok-check_version.ensures c.counts-c.ensures
    (goes_on _ _ _ c.in_ok-check_counts.ensures
    (goes_on _ _ _ c.in_ok-check_length.ensures
    (goes_on _ _ _ c.in_ok-check_sets.ensures
    (goes_on _ _ _ c.in_ok-check_actions.ensures refl))))

pub new-view-requires : goal.new-view-requires
new-view-requires c = taken_means _ _ (sym (all-passed (goal.at.new-view-requires c).In_ok-check_actions))

pub returns-clause-rule : goal.returns-clause-rule
returns-clause-rule c = ap accepted c.new-view.ensures.1 ∙ all-passed (goal.at.returns-clause-rule c).In_ok-check_actions
