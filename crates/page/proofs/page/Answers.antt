-- `page` meets its contract: causes 1 to 5, 16, 15, 6, 7, 9 and 10; when all are passed, the entries stand in front.
use mathlib.Core.Path.{◌≡◌, refl, sym, ap, ◌∙◌}
use mathlib.Core.List.{List}
use Prim.Native.Nat.{ℕ}
use lib.ListN.{length, get_or}
use Rattle.rules.specs.Lists.{list_over}
use Rattle.rules.specs.declared.Shape.{Shape}
use Rattle.words.specs.Memory.{put_at}
use Rattle.graph.specs.Verdict.{Verdict, verdict}
use Rattle.graph.specs.Checks.{set_rule, graph_rule}
use Rattle.graph.proofs.Ladder.{output_means, graph_means}
use Rattle.graph.proofs.Verdicts.{stops, goes_on, laid_away, laid_accepted}
use Rattle.level.proofs.Answers.{of_lent}
use Rattle.page.specs.Rule.{page_rule, page_taken}
use Rattle.page.specs.Memo.{entry_in}
use Rattle.page.proofs.Singles.{entries_long, entries_single, entries_same, single_taken}
use Rattle.page.proofs.page.Goals as goal
use Rattle.page.proofs.page.Goals.{After-check_set}

-- what was found of the set is its rule
asked : (c : After-check_set) {v : Verdict (Unit {0})} → v ≡ graph_rule c.in_ok-c.field-0.counts c.args.depth (verdict c.check_set.result) (length c.args.words.now)
    → v ≡ graph_rule c.in_ok-c.field-0.counts c.args.depth (set_rule c.in_ok-c.field-0.counts.states c.args.set.0) (length c.args.words.now)
asked c e = e ∙ ap (λ (x : Verdict (Unit {0})). graph_rule c.in_ok-c.field-0.counts c.args.depth x (length c.args.words.now)) c.check_set.ensures

pub returns-in_err-c : goal.returns-in_err-c
unfolding page_rule
returns-in_err-c c = laid_away _ _ _ _ c.from_residual.ensures.1 (stops _ _ _ c.in_err-c.ensures.rule)

pub returns-in_err-layers : goal.returns-in_err-layers
unfolding page_rule page_taken
returns-in_err-layers c = laid_away _ _ _ _ c.from_residual-in_err-layers.ensures.1
    (goes_on _ _ _ c.in_ok-c.ensures.rule
    (stops _ _ _ (asked (goal.at.returns-in_err-layers c).After-check_set c.in_err-layers.ensures.rule)))

pub returns-in_err-check_output : goal.returns-in_err-check_output
unfolding page_rule page_taken
returns-in_err-check_output c = laid_away _ _ _ _ c.from_residual-in_err-check_output.ensures.1
    (goes_on _ _ _ c.in_ok-c.ensures.rule
    (goes_on _ _ tt (asked (goal.at.returns-in_err-check_output c).After-check_set c.in_ok-layers.ensures.rule)
    (stops _ _ _ c.in_err-check_output.ensures)))

pub put_entries-requires : goal.put_entries-requires
put_entries-requires c = output_means _ _ (sym c.in_ok-check_output.ensures)

pub returns : goal.returns
unfolding page_rule page_taken
returns c =
    let a = c.args in
    let d = c.in_ok-c.field-0.counts in
    let g = asked (goal.at.returns c).After-check_set c.in_ok-layers.ensures.rule in
    let by : Shape → ℕ → List ℕ → List ℕ = λ S k w. list_over (length a.goals.now) (λ i. entry_in S k a.set.0 (get_or a.goals.now i 0) w) in
    laid_accepted _ _ _ _ _
    (sym (goes_on _ _ _ c.in_ok-c.ensures.rule (goes_on _ _ tt g (goes_on _ _ tt c.in_ok-check_output.ensures refl))))
    (sym (entries_long _ a.goals.now))
    (c.put_entries.ensures
    ∙ ap (λ (l : List ℕ). put_at 0 l a.out.now)
    (of_lent by c.in_ok-layers.ensures.layers
    ∙ entries_single d a.depth a.set.0 a.words.now (graph_means _ _ _ _ (sym g)) a.goals.now
    ∙ entries_same a.goals.now (single_taken _ _ _ _ _ (sym c.in_ok-c.ensures.rule))))
