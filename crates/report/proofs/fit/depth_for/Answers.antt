-- The division gives the greatest depth that fits.
use mathlib.Core.Path.{ap₂}
use Prim.Native.Nat.{ℕ, ◌-◌, ◌/◌}
use native.Mathlib.Omega.{arith}
use Rattle.report.proofs.Depths.{some_stride, depth_is, depth_most}
use Rattle.report.proofs.fit.depth_for.Goals as goal

pub nonzero_div-most : goal.nonzero_div-most
nonzero_div-most c =
    omega (arith, c.stride.ensures.0, some_stride c.args.shape c.requires.1)

pub returns-then-most-gt-MAX_DEPTH : goal.returns-then-most-gt-MAX_DEPTH
returns-then-most-gt-MAX_DEPTH c =
    depth_most c.args.shape _ _ c.requires.1 c.requires.2
    (ap₂ (λ (x y : ℕ). (c.args.room - x) / y) c.word_count.ensures c.stride.ensures.0) c.if-most-gt-MAX_DEPTH.true

pub returns : goal.returns
returns c =
    depth_is c.args.shape _ _ c.requires.1 c.requires.2
    (ap₂ (λ (x y : ℕ). (c.args.room - x) / y) c.word_count.ensures c.stride.ensures.0) (omega arith)
