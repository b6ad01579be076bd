use native.Mathlib.Omega.{arith}
use Rattle.decimal.proofs.Decimals.{length_small, length_large, length_most_lem}
use Rattle.decimal.proofs.decimal_length.Goals as goal

pub loop-rest-init : goal.loop-rest-init
loop-rest-init c = (omega arith, length_most_lem 19 c.args.value (omega arith))

pub overflow_add-count : goal.overflow_add-count
overflow_add-count c = omega (arith, length_large c.loop-rest.rest (omega arith))

pub loop-rest-smaller : goal.loop-rest-smaller
loop-rest-smaller c = omega arith

pub loop-rest-preserved : goal.loop-rest-preserved
loop-rest-preserved c = (omega (arith, length_large c.loop-rest.rest (omega arith)), omega arith)

pub returns : goal.returns
returns c =
    let last = length_small c.loop-rest.rest (omega arith) in
    (omega arith, omega arith)
