-- `Counts::add_at` meets its contract.
use native.Mathlib.Omega.{arith}
use Rattle.graph.proofs.Places.{sets_before}
use Rattle.graph.proofs.format.Counts.add_at.Goals as goal

pub returns : goal.returns
returns c = (omega (arith, c.sets_at.ensures.0), omega (arith, c.sets_at.ensures.0, sets_before _ c.requires.0 c.requires.1))
