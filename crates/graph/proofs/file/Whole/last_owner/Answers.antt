use native.Mathlib.Omega.{arith}
use borrow.Author.Count.{below_more}
use Rattle.graph.proofs.Owners.{all_owned}
use Rattle.graph.proofs.file.Whole.last_owner.Goals as goal

pub loop-e-init : goal.loop-e-init
loop-e-init c = (omega arith, λ k h. absurd (omega arith))

pub owner_at-requires : goal.owner_at-requires
owner_at-requires c = (c.args.self.now.ranged, c.requires, c.args.self.now.long, c.loop-e-test.true)

pub loop-e-preserved : goal.loop-e-preserved
loop-e-preserved c =
    (omega arith, below_more _ _ (λ k h. omega (arith, c.loop-e.invariant.1 k h, c.max-last.ensures)) (omega (arith, c.owner_at.ensures, c.max-last.ensures)))

pub returns : goal.returns
returns c h =
    let l = c.loop-e in
    all_owned _ _ (λ k g. omega (arith, l.invariant.1 k (omega (arith, l.invariant.0, c.loop-e-test.false))))
