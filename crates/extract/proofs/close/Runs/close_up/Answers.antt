-- All that have as far to go are shifted at once.
use native.Mathlib.Omega.{arith}
use Rattle.extract.proofs.Moves.{runs_close, run_close}
use Rattle.extract.proofs.close.Runs.close_up.Goals as goal

pub returns-then-self : goal.returns-then-self
returns-then-self c =
    run_close c.args.self.set _ _ _ _ _ (omega arith) c.args.self.made.low_is c.args.self.made.high_is c.args.self.all c.if-self.true

pub returns : goal.returns
returns c =
    runs_close c.args.self.set _ _ _ _ _ (omega arith) c.args.self.made.low_is c.args.self.made.high_is c.args.self.all
