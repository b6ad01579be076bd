-- The product of two numbers is at most the product of what they are at most.
use Rattle.std.proofs.Common.{ℕ, ◌*◌, ◌%◌, ◌^◌, ◌≤◌, mul-le-mul, arith}
use Rattle.brute_force.proofs.power.limb_times.Goals as goal

bounded : (limb number : ℕ) → number ≤ 2 ^ 32 → limb % 65536 * number ≤ 65535 * 2 ^ 32
bounded limb number most = mul-le-mul {n₁ = limb % 65536} {n₂ = 65535} (omega arith) most

pub overflow_mul-result : goal.overflow_mul-result
overflow_mul-result c = omega (arith, bounded c.args.limb c.args.number c.requires)

pub returns : goal.returns
returns c = bounded c.args.limb c.args.number c.requires
