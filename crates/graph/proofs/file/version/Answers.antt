-- `file::version` meets its contract: two bytes, lowest first.
use Rattle.graph.specs.Format.{version}
use native.Mathlib.Omega.{arith}
use Rattle.graph.proofs.file.version.Goals as goal

pub returns : goal.returns
unfolding version
returns c = omega (arith, c.byte-2.ensures.0, c.byte.ensures.0)
