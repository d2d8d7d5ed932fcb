use native.Mathlib.Omega.{arith}
use lib.Pow.{pow_pos}
use Rattle.graph.proofs.Files.{left_all, left_bad, left_next, left_none}
use Rattle.graph.proofs.file.Whole.find.Goals as goal

pub loop-i-init : goal.loop-i-init
loop-i-init c = left_all _ _ _ _

pub returns-then-first-set_at : goal.returns-then-first-set_at
returns-then-first-set_at c = left_bad _ _ c.loop-i.invariant c.loop-i-test.true (omega (arith, c.set_at.ensures, c.first.ensures, c.if-first-set_at.true, pow_pos c.args.self.now.counts.props))

pub loop-i-preserved : goal.loop-i-preserved
loop-i-preserved c = left_next _ _ c.loop-i.invariant c.loop-i-test.true (omega (arith, c.set_at.ensures, c.first.ensures, c.if-first-set_at.false, pow_pos c.args.self.now.counts.props))

pub returns : goal.returns
returns c = left_none _ _ c.loop-i.invariant c.loop-i-test.false
