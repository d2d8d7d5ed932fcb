-- The search and the rest decide the level as the rule does.
use mathlib.Core.Path.{◌≡◌, sym, ap, ◌∙◌}
use Prim.Native.Nat.{ℕ}
use native.Mathlib.Omega.{arith}
use Rattle.rules.specs.Level.{first_met, level_of, level_by}
use Rattle.rules.proofs.Levels.{level_by_lem, never_by, not_by}
use Rattle.level.specs.Rule.{rest_said}
use Rattle.report.specs.Lines.{level_in}
use Rattle.report.proofs.Marks.{rest_some, rest_none}
use Rattle.report.proofs.lines.Lines.level.Goals as goal
use Rattle.report.proofs.lines.Lines.level.Goals.{After-first_met-t}

-- the level by the layer that was found
by_found : (c : After-first_met-t) → level_by c.args.self.now.layers.shape c.args.self.now.layers.depth c.args.self.now.layers.words.now c.first_met-t.result
    ≡ level_in c.args.self.now.layers c.args.set.0 c.args.p
unfolding level_of
by_found c =
    let l = c.args.self.now.layers in
    ap (level_by l.shape l.depth l.words.now)
    (c.first_met-t.ensures ∙ ap (λ (g : ℕ). first_met l.shape l.depth c.args.set.0 g l.words.now) c.single.ensures)

pub returns-then-t-self : goal.returns-then-t-self
returns-then-t-self c = sym (level_by_lem _ _ _ _ c.if-t-self.true) ∙ by_found (goal.at.returns-then-t-self c).After-first_met-t

pub returns-in-Some : goal.returns-in-Some
returns-in-Some c =
    let s = c.args.self.now in
    sym (never_by _ _ _ _ (omega (arith, c.if-t-self.false)) (rest_some _ _ _ _ (sym (ap rest_said c.in-Some.is) ∙ s.rest_is)))
    ∙ by_found (goal.at.returns-in-Some c).After-first_met-t

pub returns-in-None : goal.returns-in-None
returns-in-None c =
    let s = c.args.self.now in
    sym (not_by _ _ _ _ (omega (arith, c.if-t-self.false)) (rest_none _ _ _ (sym (ap rest_said c.in-None.is) ∙ s.rest_is)))
    ∙ by_found (goal.at.returns-in-None c).After-first_met-t
