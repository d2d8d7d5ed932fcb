-- A label that lacks a state is found first; else the labels meet the goal, and the pairs decide.
use native.Mathlib.Omega.{arith}
use borrow.Author.Rules.{rules}
use Rattle.rules.proofs.Layers.{labels_in}
use Rattle.level.proofs.Goals.{label_judged}
use Rattle.level.proofs.goal.failing.Goals as goal

pub lacking-p-requires : goal.lacking-p-requires
lacking-p-requires c = (search rules, omega (arith, labels_in c.args.n), search rules)

pub returns-then-p-n : goal.returns-then-p-n
returns-then-p-n c = label_judged c.if-p-n.true c.lacking-p.ensures

pub clash-requires : goal.clash-requires
clash-requires c = (search rules, search rules, search rules, c.lacking-p.ensures.all c.if-p-n.false)

pub returns : goal.returns
returns c = c.clash.ensures
