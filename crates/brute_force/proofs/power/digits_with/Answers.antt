-- A number of 64 bits has at most 64 leading zeros.
use Rattle.std.proofs.Common.{arith}
use lib.Count.{leading_le}
use Rattle.brute_force.proofs.power.digits_with.Goals as goal

pub overflow_cast-result : goal.overflow_cast-result
overflow_cast-result c = omega (arith, leading_le 64 c.args.limb)

pub overflow_sub-result : goal.overflow_sub-result
overflow_sub-result c = omega (arith, leading_le 64 c.args.limb)
