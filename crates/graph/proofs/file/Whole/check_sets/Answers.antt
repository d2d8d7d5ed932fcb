-- `Whole::check_sets` meets its contract: sets that together have no bit P or above pass, and else the first that has one is looked for.
use native.Mathlib.Omega.{arith}
use lib.Pow.{pow_pos}
use Rattle.graph.proofs.file.Whole.check_sets.Goals as goal

pub returns-then-joined_all-first : goal.returns-then-joined_all-first
returns-then-joined_all-first c = c.joined_all.ensures (omega (arith, c.first.ensures, pow_pos c.args.self.now.counts.props, c.if-joined_all-first.true))
