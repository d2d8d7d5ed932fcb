-- Nothing is written before the words are whole; then they are copied and counted.
use mathlib.Core.List.{[]}
use mathlib.Core.Path.{◌≡◌, sym, ap, ◌∙◌}
use mathlib.Core.List.{List}
use Prim.Native.Nat.{ℕ}
use native.Mathlib.Omega.{arith}
use lib.ListN.{length}
use Rattle.rules.specs.Word.{bit}
use Rattle.rules.specs.Over.{keep}
use Rattle.rules.specs.Lists.{list_over}
use Rattle.rules.specs.Plan.{descend}
use Rattle.rules.proofs.Layers.{length_list_over}
use Rattle.plan.specs.Search.{listed_actions, planned_as}
use Rattle.plan.proofs.Answers.{plan_refused, plan_given, ends_stuck, ends_whole}
use Rattle.plan.proofs.Readings.{goals_live, goals_spread}
use Rattle.plan.proofs.plan_in.Goals as goal
use Rattle.plan.proofs.plan_in.Goals.{After-spread, After-descend-got}

pub spread-requires : goal.spread-requires
spread-requires c =
    omega (arith, ap length c.requires.2, length_list_over (length c.args.effects.now.adders.now) (λ p. 0), c.args.effects.now.tables.props)

-- the goals are what is needed at the level
goals : (c : After-spread)
    → let a = c.args in
    c.spread.new.row ≡ list_over (length a.effects.now.adders.now) (λ p. keep (bit p a.goal.0) a.set.0)
goals c =
    let a = c.args in
    goals_spread (length a.effects.now.adders.now) a.set.0 a.goal.0 _ _ c.requires.2 c.spread.ensures

pub descend-got-requires : goal.descend-got-requires
descend-got-requires c =
    let g = goals (goal.at.descend-got-requires c).After-spread in
    (c.requires.0, ap length g ∙ length_list_over _ _, goals_live _ c.args.set.0 c.args.goal.0 _ c.requires.1 g)

-- the descent is that from the goals
falls : (c : After-descend-got)
    → let a = c.args in
    let e = a.effects.now in
    planned_as c.descend-got.result c.descend-got.new.plan
    ≡ descend (listed_actions e.needs.now e.owners.now e.adders.now) a.words.now (length a.plan.now) (list_over (length e.adders.now) (λ p. keep (bit p a.goal.0) a.set.0)) []
falls c =
    let a = c.args in
    let e = a.effects.now in
    c.descend-got.ensures
    ∙ ap (λ (l : List ℕ). descend (listed_actions e.needs.now e.owners.now e.adders.now) a.words.now (length a.plan.now) l [])
    (goals_spread (length e.adders.now) a.set.0 a.goal.0 _ _ c.requires.2 c.spread.ensures)

pub returns-in-Err : goal.returns-in-Err
returns-in-Err c = λ depth.
    plan_refused _ _ _ _ (ends_stuck depth _ _ (sym (ap (λ r. planned_as r c.descend-got.new.plan) c.in-Err.is) ∙ falls (goal.at.returns-in-Err c).After-descend-got))

pub copy-requires : goal.copy-requires
copy-requires c =
    omega (arith, c.requires.3, c.descend-got.auto.plan)

pub count-requires : goal.count-requires
count-requires c = omega (arith, c.requires.0.deep, c.descend-got.auto.plan)

pub returns : goal.returns
returns c =
    λ depth.
    plan_given _ c.descend-got.new.plan _ _ _
    (ends_whole depth _ c.descend-got.new.plan
    (sym (ap (λ r. planned_as r c.descend-got.new.plan) c.in_default.is) ∙ falls (goal.at.returns c).After-descend-got))
    c.count.ensures c.copy.ensures
