-- `Whole::check_owners` meets its contract: the largest number tells of all, or the first that is no action's is looked for.
use native.Mathlib.Omega.{arith}
use Rattle.graph.proofs.file.Whole.check_owners.Goals as goal

pub last_owner-requires : goal.last_owner-requires
last_owner-requires c = c.requires

pub returns-then-last_owner-self : goal.returns-then-last_owner-self
returns-then-last_owner-self c = c.last_owner.ensures (omega arith)

pub find_stray-requires : goal.find_stray-requires
find_stray-requires c = c.requires

pub returns : goal.returns
returns c = c.find_stray.ensures
