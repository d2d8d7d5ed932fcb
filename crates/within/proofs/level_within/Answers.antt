-- `level_within` meets its contract: the file, then causes 6 to 9 of each call, then both levels.
use mathlib.Core.Path.{◌≡◌, refl, sym, ap, ◌∙◌}
use mathlib.Core.List.{List}
use Prim.Native.Nat.{ℕ}
use lib.ListN.{length}
use Rattle.rules.specs.Level.{Level, level_of}
use Rattle.rules.specs.declared.Shape.{Shape}
use Rattle.graph.specs.Verdict.{Verdict, accepted, verdict}
use Rattle.graph.specs.Format.{shape_in}
use Rattle.graph.specs.Checks.{asked_rule, graph_rule}
use Rattle.graph.proofs.Verdicts.{handed_on, stops}
use Rattle.level.specs.Rule.{level_rule}
use Rattle.level.proofs.Answers.{of_lent}
use Rattle.within.specs.Rule.{levels_rule}
use Rattle.within.proofs.Both.{first_refused, second_refused, both_accepted, level_away, level_found}
use Rattle.within.proofs.level_within.Goals as goal
use Rattle.within.proofs.level_within.Goals.{After-check_asked-asked, In_ok-widest}

-- what was found of the set and the goal is their rule, whatever the memory
asked : (c : After-check_asked-asked) (have : ℕ) {v : Verdict (Unit {0})} → v ≡ graph_rule c.in_ok-c.field-0.counts c.args.depth (verdict c.check_asked-asked.result) have
    → v ≡ graph_rule c.in_ok-c.field-0.counts c.args.depth (asked_rule c.in_ok-c.field-0.counts c.args.set.0 c.args.goal.0) have
asked c have e = e ∙ ap (λ (x : Verdict (Unit {0})). graph_rule c.in_ok-c.field-0.counts c.args.depth x have) c.check_asked-asked.ensures

pub returns-in_err-c : goal.returns-in_err-c
unfolding levels_rule level_rule
returns-in_err-c c = handed_on _ _ _ c.from_residual.ensures.1 ∙ sym (first_refused _ _ _ _ (sym (stops _ _ _ c.in_err-c.ensures.rule)))

pub returns-in_err-widest : goal.returns-in_err-widest
unfolding levels_rule
returns-in_err-widest c = handed_on _ _ _ c.from_residual-in_err-widest.ensures.1
    ∙ sym (first_refused _ _ _ _ (sym (level_away _ _ _ _ _ _ c.in_ok-c.ensures.rule _
    (asked (goal.at.returns-in_err-widest c).After-check_asked-asked _ c.in_err-widest.ensures.rule))))

-- the single call's answer on the words of the possible sets, once they are lent
found : (c : In_ok-widest) {l : Level} → l ≡ level_of (shape_in c.in_ok-c.field-0.counts) c.args.depth c.args.set.0 c.args.goal.0 c.args.possible.now
    → accepted l ≡ level_rule c.args.file.now c.args.depth c.args.set.0 c.args.goal.0 c.args.possible.now
found c e = level_found _ _ _ _ _ _ c.in_ok-c.ensures.rule
    (c.in_ok-widest.ensures.rule ∙ ap (λ (x : Verdict (Unit {0})). graph_rule c.in_ok-c.field-0.counts c.args.depth x (length c.args.possible.now)) c.check_asked-asked.ensures) e

pub returns-in_err-least : goal.returns-in_err-least
unfolding levels_rule
returns-in_err-least c = handed_on _ _ _ c.from_residual-in_err-least.ensures.1
    ∙ sym (second_refused _ _ _ _ _ (sym (found (goal.at.returns-in_err-least c).In_ok-widest refl))
    (sym (level_away _ _ _ _ _ _ c.in_ok-c.ensures.rule _
    (asked (goal.at.returns-in_err-least c).After-check_asked-asked _ c.in_err-least.ensures.rule))))

pub returns : goal.returns
unfolding levels_rule
returns c =
    let by : Shape → ℕ → List ℕ → Level = λ S k w. level_of S k c.args.set.0 c.args.goal.0 w in
    sym (both_accepted _ _ _ _
    (sym (found (goal.at.returns c).In_ok-widest (c.level-first.ensures ∙ of_lent by c.in_ok-widest.ensures.layers)))
    (sym (level_found _ _ _ _ _ _ c.in_ok-c.ensures.rule (asked (goal.at.returns c).After-check_asked-asked _ c.in_ok-least.ensures.rule)
    (c.level-second.ensures ∙ of_lent by c.in_ok-least.ensures.layers))))
