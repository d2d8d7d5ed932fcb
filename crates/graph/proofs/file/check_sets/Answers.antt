-- `file::check_sets` meets its contract: bytes are too small for a set with bit 32.
use mathlib.Core.Path.{sym}
use Prim.Native.Nat.{◌+◌}
use native.Mathlib.Omega.{arith}
use native.Mathlib.Nat.{lt_of_lt_of_le}
use lib.Pow.{pow_mono}
use Rattle.graph.specs.Format.{set_at}
use Rattle.graph.proofs.Files.{fits_pass, all_fit}
use Rattle.graph.proofs.file.check_sets.Goals as goal

pub returns-then-c-ge-PROP_WIDTH : goal.returns-then-c-ge-PROP_WIDTH
unfolding set_at
returns-then-c-ge-PROP_WIDTH c = let byte = c.shared_slice_known-1.given in
    sym (fits_pass _ _ (all_fit c.args.file.now c.args.c (λ at.
    lt_of_lt_of_le (omega (arith, byte at, byte (at + 1), byte (at + 2), byte (at + 3))) (pow_mono c.if-c-ge-PROP_WIDTH.true))))
