-- The products are small.
use Prim.Native.Nat.{ℕ, ◌*◌, ◌≤◌}
use native.Mathlib.Nat.{mul-le-mul}
use native.Mathlib.Omega.{arith}
use lib.ListN.{length}
use Rattle.build.proofs.problem.many_pairs.Goals as goal

few_product : {a b : ℕ} → a ≤ 1024 → b ≤ 32 → a * b ≤ 32768
few_product h k = mul-le-mul h k

pub overflow_mul-result-3 : goal.overflow_mul-result-3
overflow_mul-result-3 c = omega (arith, few_product {a = 9 * c.args.span} {b = length c.args.interferers.now} (omega arith) (omega arith))

pub overflow_add-result : goal.overflow_add-result
overflow_add-result c = omega (arith, c.count_interferers.ensures, few_product {a = 9 * c.args.span} {b = length c.args.interferers.now} (omega arith) (omega arith))

pub overflow_mul-result-5 : goal.overflow_mul-result-5
overflow_mul-result-5 c = omega (arith, few_product {a = 32 * length c.args.interferers.now} {b = length c.args.interferers.now} (omega arith) (omega arith))
