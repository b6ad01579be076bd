-- 2^n is at most 2^32, whose sixteenth power has room.
use native.Mathlib.Nat.{pow-le-pow_right}
use Rattle.std.proofs.Common.{arith}
use Rattle.brute_force.proofs.agree.is_bounded.Goals as goal

pub digits_of_power-all-requires : goal.digits_of_power-all-requires
digits_of_power-all-requires c = omega (arith, pow-le-pow_right {n = 2} (omega arith) {i = c.args.n} {j = 32} (omega arith))
