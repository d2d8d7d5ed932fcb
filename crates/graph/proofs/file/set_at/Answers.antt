-- `file::set_at` meets its contract: four bytes, lowest first.
use native.Mathlib.Omega.{arith}
use Rattle.graph.specs.Format.{set_at}
use Rattle.graph.proofs.file.set_at.Goals as goal

pub returns : goal.returns
unfolding set_at
returns c = omega arith
