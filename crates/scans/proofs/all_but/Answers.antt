-- `single(v)` is just v.
use mathlib.Core.Path.{ap}
use Prim.Native.Nat.{ℕ}
use Rattle.rules.specs.Word.{without}
use Rattle.scans.proofs.all_but.Goals as goal

pub returns : goal.returns
returns c = ap (λ (x : ℕ). without c.args.set x) c.single.ensures
