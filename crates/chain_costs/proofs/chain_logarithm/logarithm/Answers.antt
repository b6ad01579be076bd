-- The whole bits of the logarithm in sixteenths, and the four bits after the highest one.
use native.Mathlib.Omega.{arith}
use Rattle.differential.specs.Logarithm.{logarithm}
use Rattle.chain_costs.proofs.chain_logarithm.logarithm.Goals as goal

pub returns : goal.returns
unfolding logarithm
returns c = omega arith
