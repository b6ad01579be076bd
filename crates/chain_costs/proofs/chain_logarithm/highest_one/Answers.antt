-- The zeros above the highest one say where it stands.
use native.Mathlib.Omega.{arith}
use Rattle.differential.proofs.Logarithms.{leading_highest_one}
use Rattle.chain_costs.proofs.chain_logarithm.highest_one.Goals as goal

pub overflow_sub-result : goal.overflow_sub-result
overflow_sub-result c = omega (arith, leading_highest_one c.args.p c.requires 32 (omega arith))

pub returns : goal.returns
returns c =
    let place = leading_highest_one c.args.p c.requires 32 (omega arith) in
    (omega arith, omega arith)
